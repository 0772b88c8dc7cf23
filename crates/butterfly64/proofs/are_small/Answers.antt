use Rattle.std.proofs.Common.{inl, inr, ◌≡◌, ◌^◌, arith}
use Rattle.std.proofs.lemmas.Bool.{cases_lt}
use Rattle.std.proofs.lemmas.Nat.{le_or_l, le_or_r}
use Rattle.fixed_complex.proofs.PairSizes.{size_by_parts}
use Rattle.butterfly64.proofs.are_small.Goals as goal

pub loop-n-preserved : goal.loop-n-preserved
loop-n-preserved c = λ below k lt. elim (cases_lt k c.loop-n.n) [
  | inl here ↦ c.loop-n.invariant (omega (arith, le_or_l c.loop-n.bits c.bits_of-bits.result)) k here
  | inr past ↦
      let at : k ≡ c.loop-n.n = omega arith in
      rw at (c.bits_of-bits.ensures (omega (arith, le_or_r c.loop-n.bits c.bits_of-bits.result)))
]

pub returns : goal.returns
returns c = λ below.
    let each = c.loop-n.invariant (grind arith) in
    record { each = λ n lt. size_by_parts (2 ^ 23) (2 ^ 24) _ (omega arith) (each n (grind arith)) }
