use Rattle.std.proofs.Common.{rules, ◌≡◌, ◌+◌, ◌++◌, ◌∷◌, [], ◌∙◌, length, length-append, ap, min}
use Rattle.std.specs.Slice.Iter.{chunks_rest}
use Rattle.interleave_two.specs.Place.{interleaved}
use Rattle.rate_table.specs.Symbols.{symbol_count}
use Rattle.rate_table.specs.Table.{row_of}
use Rattle.frame_fields.proofs.Symbols.{all_appended, next_symbol, no_symbol, some_coded, symbol_appended}
use Rattle.frame_stages.proofs.stages.interleaved_code.Goals as goal

pub loop-symbol-preserved : goal.loop-symbol-preserved
loop-symbol-preserved c =
    let kept : chunks_rest c.into_iter-symbol-iterator.result ≡ c.in_ok-kept.kept.items = search rules in
    let more : length (c.loop-symbol.yielded ++ c.in-Some.symbol ∷ []) ≡ length c.loop-symbol.yielded + 1 = length-append c.loop-symbol.yielded (c.in-Some.symbol ∷ []) in
    let next = next_symbol (row_of c.args.rate).coded_bits (symbol_count (row_of c.args.rate).field_bits (length c.args.psdu.now)) (length c.loop-symbol.yielded)
    (chunks_rest c.into_iter-symbol-iterator.result) (chunks_rest c.loop-symbol.symbol-iterator) c.in-Some.symbol.now (chunks_rest c.next.new.self)
    (ap length kept ∙ c.in_ok-kept.ensures.len) c.loop-symbol.invariant.rest c.in-Some.ensures.steps.1.0
    (c.in-Some.ensures.steps.1.1 ∙ ap (λ n. min n (length (chunks_rest c.loop-symbol.symbol-iterator))) c.loop-symbol.invariant.size) c.in-Some.ensures.steps.1.2 in
    record {
      size = c.in-Some.ensures.steps.0 ∙ c.loop-symbol.invariant.size;
      rest = rw more next.rest_is;
      within = rw more next.within;
      so_far = rw more (symbol_appended (interleaved c.args.rate) c.args.rate (chunks_rest c.into_iter-symbol-iterator.result) c.in-Some.symbol.now c.loop-symbol.bits.items
          c.push_interleaved.new.bits.items (length c.loop-symbol.yielded) c.loop-symbol.invariant.so_far next.is c.in_ok-push_interleaved.ensures.appended);
      bits = c.in_ok-push_interleaved.ensures.bits c.loop-symbol.invariant.bits;
    }

pub returns-clause-interleaved : goal.returns-clause-interleaved
returns-clause-interleaved c =
    let kept : chunks_rest c.into_iter-symbol-iterator.result ≡ c.in_ok-kept.kept.items = search rules in
    let all = no_symbol (row_of c.args.rate).coded_bits (symbol_count (row_of c.args.rate).field_bits (length c.args.psdu.now)) (length c.loop-symbol.yielded)
    (chunks_rest c.into_iter-symbol-iterator.result) (chunks_rest c.loop-symbol.symbol-iterator) (some_coded c.args.rate)
    (ap length kept ∙ c.in_ok-kept.ensures.len) c.loop-symbol.invariant.rest c.loop-symbol.invariant.within c.in-None.ensures.steps.1.0 in
    all_appended (interleaved c.args.rate) c.args.rate (chunks_rest c.into_iter-symbol-iterator.result) _ c.loop-symbol.bits.items (length c.loop-symbol.yielded) _
    c.loop-symbol.invariant.so_far (kept ∙ c.in_ok-kept.ensures.kept) all
