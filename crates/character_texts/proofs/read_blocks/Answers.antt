use Rattle.std.proofs.Common.{◌≡◌, ◌+◌, ◌-◌, ◌*◌, ◌++◌, map, take, drop, sym, arith}
use Rattle.std.proofs.lemmas.List.{map-append}
use Rattle.std.proofs.lemmas.List.Elements.{All-append}
use Rattle.std.proofs.Math.Seq.{take-add}
use Rattle.character_texts.proofs.read_blocks.Goals as goal

pub loop-k-preserved : goal.loop-k-preserved
loop-k-preserved g c =
    let written = g.A.Alphabet.written in
    let old = c.loop-k.values.items in
    let characters = c.args.characters.now in
    let i = 16 * c.loop-k.k in
    let next : 16 * (c.loop-k.k + 1) ≡ i + 16 = omega arith in
    let many : i + 16 - i ≡ 16 = omega arith in
    let pushed : c.extend_from_slice.new.self.items ≡ old ++ c.in-Some.sixteen = c.in_ok-extend_from_slice-in-Some.ensures.items in
    let block : map written c.in-Some.sixteen ≡ take 16 (drop i characters) = rw many at (sym c.in-Some.ensures.read) in
    record {
      so_far = rw (pushed, map-append written old c.in-Some.sixteen, c.loop-k.invariant.so_far, block, next) (sym (take-add i 16 characters));
      values = rw pushed (All-append g.A.Alphabet.is_value old c.in-Some.sixteen c.loop-k.invariant.values c.in-Some.ensures.values);
    }
