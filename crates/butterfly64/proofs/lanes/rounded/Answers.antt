use Rattle.std.proofs.Common.{rules, ◌^◌}
use Rattle.butterfly64.proofs.LaneOps.{rounded_ask, rounded_give, half_up-within, rounded_long}
use Rattle.fixed_complex.specs.Numbers.{number_at}
use Rattle.fixed_complex.proofs.Numbers.{within_eight}
use Rattle.butterfly64.proofs.lanes.rounded.Goals as goal

pub overflow_add-result : goal.overflow_add-result
overflow_add-result c = rounded_ask c.args.x (search rules) c.requires

pub returns-clause-value : goal.returns-clause-value
returns-clause-value c = λ l h. rounded_give c.args.x l (search rules) c.requires h

pub returns-clause-bound : goal.returns-clause-bound
returns-clause-bound c = within_eight (2 ^ 42) _ (rounded_long _ _ c.args.x (search rules)) (λ l h. rw (returns-clause-value c l h) (half_up-within (number_at c.args.x l) (c.requires l)))
