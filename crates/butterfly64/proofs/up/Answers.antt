use Rattle.butterfly64.proofs.SumSizes.{size-up_sums, within-up_sums}
use Rattle.butterfly64.proofs.up.Goals as goal

pub returns-then-are_small-clause-sizes : goal.returns-then-are_small-clause-sizes
returns-then-are_small-clause-sizes c = rw c.up_words.ensures.sums (size-up_sums c.args.x.now)

pub returns-then-are_small-clause-within : goal.returns-then-are_small-clause-within
returns-then-are_small-clause-within c = rw c.up_words.ensures.sums (within-up_sums c.args.x.now c.requires)

pub returns-else-are_small-clause-sizes : goal.returns-else-are_small-clause-sizes
returns-else-are_small-clause-sizes c = rw c.up_wide.ensures (size-up_sums c.args.x.now)

pub returns-else-are_small-clause-within : goal.returns-else-are_small-clause-within
returns-else-are_small-clause-within c = rw c.up_wide.ensures (within-up_sums c.args.x.now c.requires)
