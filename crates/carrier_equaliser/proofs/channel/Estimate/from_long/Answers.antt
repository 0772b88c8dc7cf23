use Rattle.std.proofs.Common.{◌^◌, refl, arith}
use Rattle.fixed_complex.specs.Pairs.{zero_pair}
use Rattle.fixed_complex.proofs.PairLists.{within-set, within-zeros}
use Rattle.integer_laws.proofs.Filled.{all_filled, none_filled, one_more}
use Rattle.carrier_equaliser.specs.Estimates.{estimate_at, estimate_of}
use Rattle.carrier_equaliser.proofs.channel.Estimate.from_long.Goals as goal

pub loop-bin-init : goal.loop-bin-init
loop-bin-init c = record {
  filled = none_filled zero_pair (estimate_at c.args.first.now c.args.second.now) 64 _ refl;
  within = within-zeros (2 ^ 23) 64;
}

pub loop-bin-preserved : goal.loop-bin-preserved
loop-bin-preserved c = record {
  filled = one_more zero_pair (estimate_at c.args.first.now c.args.second.now) 64 _ _ _ c.loop-bin.invariant.filled c.loop-bin-test.true c.estimated.ensures.value;
  within = within-set (2 ^ 23) c.loop-bin.bins c.loop-bin.bin c.estimated.result c.loop-bin.invariant.within c.estimated.ensures.within;
}

pub returns : goal.returns
unfolding estimate_of
returns c = all_filled zero_pair (estimate_at c.args.first.now c.args.second.now) 64 _ _ c.loop-bin.invariant.filled (omega arith)
