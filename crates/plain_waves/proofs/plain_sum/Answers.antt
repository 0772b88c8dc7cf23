use Rattle.std.proofs.Common.{◌≡◌, ℕ, ◌+◌, ◌*◌, ◌∙◌, ◌^◌, suc, List, ap, refl, sym, arith}
use Rattle.fixed_complex.specs.declared.Cx.{Cx}
use Rattle.fixed_complex.specs.Laws.{sum_below}
use Rattle.fixed_complex.specs.Pairs.{IsOfSize, plus, times}
use Rattle.fixed_complex.specs.Turns.{turn_at}
use Rattle.fixed_complex.specs.PairLists.{PairsWithin, entry}
use Rattle.fixed_complex.proofs.Sums.{size-sum}
use Rattle.fixed_complex.proofs.PairSizes.{size-times, size-within, within-size, within_wider}
use Rattle.fixed_complex.proofs.TurnLaws.{turn-size, turn-within}
use Rattle.fixed_complex.proofs.PairLists.{everywhere_within}
use Rattle.plain_waves.proofs.plain_sum.Goals as goal

-- a carrier turned
turned : List Cx → ℕ → ℕ → Cx
turned xs n c = times (entry xs c) (turn_at (c * n))

one_size : (xs : List Cx) (n c : ℕ) → PairsWithin 954 xs → IsOfSize (1908 * 1048577) (turned xs n c)
unfolding turned
one_size xs n c within = size-times 1908 1048577 (entry xs c) (turn_at (c * n)) (size-within 954 (entry xs c) (everywhere_within 954 xs within c)) (turn-size (c * n))

-- the sum of the first few of them
next : (k : ℕ) (f : ℕ → Cx) → sum_below (k + 1) f ≡ plus (sum_below k f) (f k)
unfolding sum_below
next k f = let e : k + 1 ≡ suc k = omega arith in rw e refl

pub loop-bin-init : goal.loop-bin-init
unfolding sum_below
loop-bin-init c = refl

pub mul-requires : goal.mul-requires
mul-requires c =
    let xs = c.args.carriers.now in
    record {
      a = within_wider 954 (2 ^ 30) _ (omega arith) (everywhere_within 954 xs c.requires.within c.loop-bin.bin);
      b = rw c.turn.ensures (within_wider (2 ^ 20) (2 ^ 30) _ (omega arith) (turn-within (c.loop-bin.bin * c.args.n)));
    }

pub add-sum-requires : goal.add-sum-requires
unfolding turned
add-sum-requires c =
    let xs = c.args.carriers.now in
    let bin = c.loop-bin.bin in
    let one = 1908 * 1048577 in
    let sum = size-sum bin one (turned xs c.args.n) (λ m _. one_size xs c.args.n m c.requires.within) in
    record {
      a = rw c.loop-bin.invariant (within_wider (bin * one) (2 ^ 61) _ (omega arith) (within-size (bin * one) _ sum));
      b =
          rw (c.mul.ensures, c.turn.ensures)
          (within_wider one (2 ^ 61) _ (omega arith) (within-size one _ (one_size xs c.args.n bin c.requires.within)));
    }

pub loop-bin-preserved : goal.loop-bin-preserved
unfolding turned
loop-bin-preserved c =
    let f = turned c.args.carriers.now c.args.n in
    c.add-sum.ensures
    ∙ ap (λ s. plus s c.mul.result) c.loop-bin.invariant
    ∙ ap (plus (sum_below c.loop-bin.bin f)) (c.mul.ensures ∙ ap (times (entry c.args.carriers.now c.loop-bin.bin)) c.turn.ensures)
    ∙ sym (next c.loop-bin.bin f)

pub returns : goal.returns
returns c =
    let all : c.loop-bin.bin ≡ 64 = omega arith in
    rw all at c.loop-bin.invariant
