use Rattle.std.proofs.Common.{rules, ◌≡◌, ◌+◌, ◌∙◌, ap, min, length, arith}
use Rattle.std.specs.Slice.Iter.{chunks_rest}
use Rattle.std.proofs.lemmas.List.Elements.{All-drop, All-take}
use Rattle.bit_lists.specs.Bits.{AreBits, IsBit}
use Rattle.interleave_two.specs.Place.{symbol_bits}
use Rattle.rate_table.specs.Symbols.{symbol_count}
use Rattle.rate_table.specs.Table.{row_of}
use Rattle.plain_waves.specs.Bodies.{sent_body}
use Rattle.frame_fields.proofs.Begun.{all_symbols, head_is, points_are, samples_are}
use Rattle.frame_fields.proofs.Symbols.{NextSymbol, count_within, next_symbol, no_symbol, some_coded}
use Rattle.frame_fields.proofs.frames.frame_samples.Goals.{In-None, In-Some}
use Rattle.frame_fields.proofs.frames.frame_samples.Goals as goal

pub chunks-symbol-items-requires : goal.chunks-symbol-items-requires
chunks-symbol-items-requires c = omega (arith, some_coded c.args.rate, c.coded_bits.ensures)

pub loop-symbol-init : goal.loop-symbol-init
loop-symbol-init c = record {
  size = search rules;
  rest = search rules;
  within = omega arith;
  samples = c.in_ok-samples.ensures.samples ∙ head_is sent_body c.args.rate c.args.seed c.args.psdu.now;
  len = c.in_ok-samples.ensures.len;
}

-- the symbol that comes off the kept code
next : (c : In-Some) → NextSymbol (row_of c.args.rate).coded_bits (chunks_rest c.into_iter-symbol-iterator.result) c.loop-symbol.n c.in-Some.symbol.now (chunks_rest c.next.new.self)
next c =
    let kept : chunks_rest c.into_iter-symbol-iterator.result ≡ c.in_ok-kept.kept.items = search rules in
    next_symbol (row_of c.args.rate).coded_bits (symbol_count (row_of c.args.rate).field_bits (length c.args.psdu.now)) c.loop-symbol.n
    (chunks_rest c.into_iter-symbol-iterator.result) (chunks_rest c.loop-symbol.symbol-iterator) c.in-Some.symbol.now (chunks_rest c.next.new.self)
    (ap length kept ∙ c.in_ok-kept.ensures.len) c.loop-symbol.invariant.rest c.in-Some.ensures.steps.1.0
    (c.in-Some.ensures.steps.1.1 ∙ ap (λ n. min n (length (chunks_rest c.loop-symbol.symbol-iterator))) c.loop-symbol.invariant.size) c.in-Some.ensures.steps.1.2

pub overflow_add-n : goal.overflow_add-n
overflow_add-n c =
    let kept : chunks_rest c.into_iter-symbol-iterator.result ≡ c.in_ok-kept.kept.items = search rules in
    omega (arith, count_within c.args.rate (length c.args.psdu.now) c.loop-symbol.n (chunks_rest c.into_iter-symbol-iterator.result) (omega arith) (ap length kept ∙ c.in_ok-kept.ensures.len) (next c).within)

pub put_code_points-requires-clause-whole : goal.put_code_points-requires-clause-whole
put_code_points-requires-clause-whole c = (next (goal.at.put_code_points-requires-clause-whole c).In-Some).long

pub put_code_points-requires-clause-bits : goal.put_code_points-requires-clause-bits
put_code_points-requires-clause-bits c =
    let symbol = next (goal.at.put_code_points-requires-clause-bits c).In-Some in
    let kept : chunks_rest c.into_iter-symbol-iterator.result ≡ c.in_ok-kept.kept.items = search rules in
    let bits : AreBits (chunks_rest c.into_iter-symbol-iterator.result) = rw kept c.in_ok-kept.ensures.bits in
    rw symbol.is (All-take IsBit _ _ (All-drop IsBit _ _ bits))

pub loop-symbol-preserved : goal.loop-symbol-preserved
loop-symbol-preserved c =
    let symbol = next (goal.at.loop-symbol-preserved c).In-Some in
    let kept : chunks_rest c.into_iter-symbol-iterator.result ≡ c.in_ok-kept.kept.items = search rules in
    let points = points_are c.args.rate c.args.seed c.args.psdu.now c.in_ok-kept.kept.items c.in-Some.symbol.now c.put_code_points.new.points c.loop-symbol.n c.in_ok-kept.ensures.kept (symbol.is ∙ ap (λ bits. symbol_bits c.args.rate bits c.loop-symbol.n) kept) c.put_code_points.ensures.points in
    record {
      size = c.in-Some.ensures.steps.0 ∙ c.loop-symbol.invariant.size;
      rest = symbol.rest_is;
      within = symbol.within;
      samples = samples_are c.args.rate c.args.seed c.args.psdu.now c.loop-symbol.samples.items _ c.put_code_points.new.points (c.loop-symbol.n + 1) c.loop-symbol.invariant.samples points c.in_ok-push_symbol.ensures.appended;
      len = omega (arith, c.in_ok-push_symbol.ensures.len, c.loop-symbol.invariant.len);
    }

-- all symbols were sent
all_sent : (c : In-None) → c.loop-symbol.n ≡ symbol_count (row_of c.args.rate).field_bits (length c.args.psdu.now)
all_sent c =
    let kept : chunks_rest c.into_iter-symbol-iterator.result ≡ c.in_ok-kept.kept.items = search rules in
    no_symbol (row_of c.args.rate).coded_bits (symbol_count (row_of c.args.rate).field_bits (length c.args.psdu.now)) c.loop-symbol.n
    (chunks_rest c.into_iter-symbol-iterator.result) (chunks_rest c.loop-symbol.symbol-iterator) (some_coded c.args.rate)
    (ap length kept ∙ c.in_ok-kept.ensures.len) c.loop-symbol.invariant.rest c.loop-symbol.invariant.within c.in-None.ensures.steps.1.0

pub returns-clause-samples : goal.returns-clause-samples
returns-clause-samples c =
    c.loop-symbol.invariant.samples ∙ all_symbols sent_body c.args.rate c.args.seed c.args.psdu.now c.loop-symbol.n (all_sent (goal.at.returns-clause-samples c).In-None)

pub returns-clause-near : goal.returns-clause-near
returns-clause-near c = rw (returns-clause-samples c) (c.sent_frames.ensures.near c.args.rate c.args.seed c.args.psdu.now)

pub returns-clause-within : goal.returns-clause-within
returns-clause-within c = rw (returns-clause-samples c) (c.sent_frames.ensures.within c.args.rate c.args.seed c.args.psdu.now)

pub returns-clause-len : goal.returns-clause-len
returns-clause-len c = omega (arith, all_sent (goal.at.returns-clause-len c).In-None, c.loop-symbol.invariant.len)
