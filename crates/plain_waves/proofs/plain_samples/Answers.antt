use Rattle.std.proofs.Common.{◌∙◌, ap, arith}
use Rattle.fixed_complex.specs.PairLists.{entry}
use Rattle.plain_waves.specs.Bodies.{plain_sample, sample_of}
use Rattle.integer_laws.proofs.Filled.{one_more, all_filled}
use Rattle.plain_waves.proofs.Loads.{plain_sample_within}
use Rattle.plain_waves.proofs.Places.{within-map}
use Rattle.plain_waves.proofs.plain_samples.Goals as goal

pub over_2_21-requires : goal.over_2_21-requires
over_2_21-requires c = rw c.plain_sum.ensures (plain_sample_within c.args.carriers.now c.loop-n.n c.requires.fits)

pub loop-n-preserved : goal.loop-n-preserved
loop-n-preserved c =
    one_more _ (plain_sample (entry c.args.carriers.now)) 64 _ _ _ c.loop-n.invariant c.loop-n-test.true (c.over_2_21.ensures ∙ ap (sample_of 21) c.plain_sum.ensures)

pub returns-clause-samples : goal.returns-clause-samples
returns-clause-samples c = all_filled _ (plain_sample (entry c.args.carriers.now)) 64 _ _ c.loop-n.invariant (omega arith)

pub returns-clause-within : goal.returns-clause-within
returns-clause-within c =
    let xs = c.args.carriers.now in
    rw (all_filled _ (plain_sample (entry xs)) 64 _ _ c.loop-n.invariant (omega arith)) (within-map 25057 (plain_sample (entry xs)) 64 (λ n lt. plain_sample_within xs n c.requires.fits))
