use Rattle.butterfly64.proofs.SumSizes.{size-down_sums, within-down_sums}
use Rattle.butterfly64.proofs.down.Goals as goal

pub returns-then-are_small-clause-sizes : goal.returns-then-are_small-clause-sizes
returns-then-are_small-clause-sizes c = rw c.down_words.ensures.sums (size-down_sums c.args.x.now)

pub returns-then-are_small-clause-within : goal.returns-then-are_small-clause-within
returns-then-are_small-clause-within c = rw c.down_words.ensures.sums (within-down_sums c.args.x.now c.requires)

pub returns-else-are_small-clause-sizes : goal.returns-else-are_small-clause-sizes
returns-else-are_small-clause-sizes c = rw c.down_wide.ensures (size-down_sums c.args.x.now)

pub returns-else-are_small-clause-within : goal.returns-else-are_small-clause-within
returns-else-are_small-clause-within c = rw c.down_wide.ensures (within-down_sums c.args.x.now c.requires)
