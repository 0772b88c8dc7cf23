use Rattle.std.proofs.Common.{◌≡◌, ◌+◌, ◌*◌, ◌∙◌, [], length, drop, arith}
use Rattle.std.proofs.lemmas.List.{take_at}
use Rattle.frame_fields.proofs.Fields.{enough_decisions}
use Rattle.rate_table.specs.Symbols.{bits_through_tail}
use Rattle.rate_table.specs.Table.{row_of}
use Rattle.soft_trellis.specs.Fields.{IsSoftFieldOf}
use Rattle.soft_trellis.specs.Marks.{StandsFor}
use Rattle.soft_trellis.specs.Values.{marks_of}
use Rattle.soft_trellis.proofs.SoftFields.{full_field, little_field, one_field}
use Rattle.soft_trellis.proofs.fields.decode_soft.Goals as goal

pub feed-requires-clause-values : goal.feed-requires-clause-values
feed-requires-clause-values c =
    let steps : 22 + 8 * c.from.result ≡ bits_through_tail c.args.octets = omega (arith, c.from.ensures) in
    rw (c.code_rate.ensures, steps) (omega (arith, c.requires.whole, enough_decisions c.args.rate c.args.octets))

-- what the trellis stands for before its end
stood : (c : goal.After-drop-trellis-inside-2) → StandsFor c.feed.new.self (marks_of (row_of c.args.rate).code_rate c.args.values.now (bits_through_tail c.args.octets))
stood c =
    let steps : 22 + 8 * c.from.result ≡ bits_through_tail c.args.octets = omega (arith, c.from.ensures) in
    rw (c.code_rate.ensures, steps) at (c.feed.ensures.appended [] c.in_ok-trellis.ensures.stands)

-- the bits that are read are those that the trellis wrote
read_bits : (c : goal.After-drop-trellis-inside-2) → c.deref_mut-2.result.now ≡ c.finish-cost.new.out
read_bits c =
    let out = c.finish-cost.new.out in
    let long : length out ≡ c.in_ok-bits.bits.len = omega (arith, c.finish-cost.auto.out, c.deref_mut.ensures.len, c.deref_mut.ensures.value) in
    c.deref_mut-2.ensures.value ∙ take_at out (drop (length out) c.in_ok-bits.bits.items) c.in_ok-bits.bits.len long

-- they are the soft field's
field : (c : goal.After-drop-trellis-inside-2) → IsSoftFieldOf c.args.rate c.args.octets c.args.values.now c.in_ok-seed.seed c.in_ok-seed.psdu c.finish-cost.result
field c = record {
  bits = c.deref_mut-2.result.now;
  cheapest = rw (read_bits c) (c.finish-cost.ensures.cheapest (marks_of (row_of c.args.rate).code_rate c.args.values.now (bits_through_tail c.args.octets)) (stood c));
  names = c.in_ok-seed.ensures.names;
  psdu_is = c.in_ok-seed.ensures.psdu;
}

pub returns-clause-field : goal.returns-clause-field
returns-clause-field c = field c

pub returns-clause-hard : goal.returns-clause-hard
returns-clause-hard c = λ decisions number psdu least bits full hard.
    let soft = full_field c.args.rate c.args.octets decisions number psdu least bits hard in
    let same = one_field c.args.rate c.args.octets c.args.values.now _ _ _ _ _ _ (field c) (rw full soft) in
    (same.0, same.1.0, same.1.1)

pub returns-clause-repaired : goal.returns-clause-repaired
returns-clause-repaired c = λ seed psdu is_seed octets long little.
    let soft = little_field c.args.rate seed psdu c.args.values.now is_seed octets little in
    let same = one_field c.args.rate c.args.octets c.args.values.now _ _ _ _ _ _ (field c) (rw (← long) soft) in
    (same.0, same.1.0, same.1.1)
