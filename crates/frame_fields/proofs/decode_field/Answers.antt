use Rattle.std.proofs.Common.{◌≡◌, ◌+◌, ◌*◌, ◌∙◌, [], length, drop, sym, arith}
use Rattle.std.proofs.lemmas.List.{take_at}
use Rattle.rate_table.specs.Symbols.{bits_through_tail}
use Rattle.rate_table.specs.Table.{row_of}
use Rattle.viterbi_lanes.specs.Decisions.{marks_of}
use Rattle.viterbi_lanes.specs.Marks.{StandsFor}
use Rattle.frame_fields.proofs.Fields.{enough_decisions, field_front, flips_are_changes, front_names, nearly_front, undone_psdu}
use Rattle.frame_fields.proofs.decode_field.Goals as goal

pub feed-requires-clause-decisions : goal.feed-requires-clause-decisions
feed-requires-clause-decisions c =
    let steps : 22 + 8 * c.from.result ≡ bits_through_tail c.args.octets = omega (arith, c.from.ensures) in
    rw (c.code_rate.ensures, steps) (omega (arith, c.requires.whole, enough_decisions c.args.rate c.args.octets))

-- what the trellis stands for before its end
stood : (c : goal.After-drop-trellis-inside-2) → StandsFor c.feed.new.self (marks_of (row_of c.args.rate).code_rate c.args.decisions.now (bits_through_tail c.args.octets))
stood c =
    let steps : 22 + 8 * c.from.result ≡ bits_through_tail c.args.octets = omega (arith, c.from.ensures) in
    rw (c.code_rate.ensures, steps) at (c.feed.ensures.appended [] c.in_ok-trellis.ensures.stands)

-- the bits that are read are those that the trellis wrote
read_bits : (c : goal.After-drop-trellis-inside-2) → c.deref_mut-2.result.now ≡ c.finish-distance.new.out
read_bits c =
    let out = c.finish-distance.new.out in
    let long : length out ≡ c.in_ok-bits.bits.len = omega (arith, c.finish-distance.auto.out, c.deref_mut.ensures.len, c.deref_mut.ensures.value) in
    c.deref_mut-2.ensures.value ∙ take_at out (drop (length out) c.in_ok-bits.bits.items) c.in_ok-bits.bits.len long

pub returns-clause-field : goal.returns-clause-field
returns-clause-field c = record {
  bits = c.deref_mut-2.result.now;
  nearest = rw (read_bits c) (c.finish-distance.ensures.nearest (marks_of (row_of c.args.rate).code_rate c.args.decisions.now (bits_through_tail c.args.octets)) (stood c));
  names = c.in_ok-seed.ensures.names;
  psdu_is = c.in_ok-seed.ensures.psdu;
}

pub returns-clause-repaired : goal.returns-clause-repaired
returns-clause-repaired c = λ seed psdu is_seed octets long few.
    let rate = c.args.rate in
    let front = field_front (row_of rate).field_bits seed psdu in
    let nearly = nearly_front rate seed c.args.octets psdu c.args.decisions.now long c.requires.bits few in
    let found = c.finish-distance.ensures.found_again (row_of rate).code_rate (bits_through_tail c.args.octets) front c.args.decisions.now (stood c) nearly in
    let bits : c.deref_mut-2.result.now ≡ front = read_bits c ∙ found.0 in
    let number : c.in_ok-seed.seed ≡ seed = sym (c.in_ok-seed.ensures.no_other seed (rw bits (front_names rate seed psdu is_seed))) in (
      number,
      sym (c.in_ok-seed.ensures.no_other_psdu psdu octets (undone_psdu rate seed c.in_ok-seed.seed c.args.octets psdu c.deref_mut-2.result.now long number bits)),
      found.1 ∙ rw (← long) (sym (flips_are_changes rate seed psdu c.args.decisions.now)),
    )
