use Rattle.std.proofs.Common.{◌≡◌, ◌^◌, ap, arith, ◌∙◌}
use Rattle.fixed_complex.specs.Pairs.{IsWithin, times}
use Rattle.fixed_complex.specs.PairLists.{entry}
use Rattle.fixed_complex.proofs.PairLists.{everywhere_within}
use Rattle.fixed_complex.specs.Samples.{pair_at}
use Rattle.echo_taps.specs.Echoes.{earlier, gathered}
use Rattle.fixed_complex.proofs.Sums.{sum-more, sum-none, within-more}
use Rattle.fixed_complex.proofs.PairSizes.{within-times, within_wider}
use Rattle.echo_taps.proofs.echoes.sum_at.Goals as goal

-- what is added at a delay, and how large it is
added : (c : goal.After-mul) → c.mul.result ≡ times (entry c.args.pairs.now c.loop-late.late) (earlier (pair_at c.args.samples.now) c.args.place c.loop-late.late)
added c = c.mul.ensures ∙ ap (λ x. times (entry c.args.pairs.now c.loop-late.late) x) c.earlier_pair.ensures.pair

small : (c : goal.After-mul) → IsWithin (2 ^ 31) c.mul.result
small c =
    let pair = within_wider 1024 (2 ^ 15) _ (omega arith) (everywhere_within 1024 c.args.pairs.now c.requires c.loop-late.late) in
    rw c.mul.ensures (within-times (2 ^ 15) (2 ^ 15) _ _ pair c.earlier_pair.ensures.within)

pub loop-late-init : goal.loop-late-init
loop-late-init c = record { so_far = sum-none _; within = record { re = omega arith; im = omega arith } }

pub add-sum-requires-clause-b : goal.add-sum-requires-clause-b
add-sum-requires-clause-b c = within_wider (2 ^ 31) (2 ^ 61) _ (omega arith) (small c)

pub loop-late-preserved : goal.loop-late-preserved
loop-late-preserved c = record {
  so_far = sum-more _ c.loop-late.late c.loop-late.sum c.add-sum.result c.mul.result c.loop-late.invariant.so_far (added c.before) c.add-sum.ensures;
  within = rw c.add-sum.ensures (within-more (2 ^ 31) c.loop-late.late c.loop-late.sum c.mul.result c.loop-late.invariant.within (small c.before));
}

pub returns-clause-sum : goal.returns-clause-sum
unfolding gathered
returns-clause-sum c =
    let all : c.loop-late.late ≡ 8 = omega arith in
    rw all at c.loop-late.invariant.so_far
