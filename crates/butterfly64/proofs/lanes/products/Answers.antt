use Rattle.fixed_complex.specs.Numbers.{number_at}
use Rattle.std.proofs.Common.{rules, ◌∙◌, ◌^◌}
use Rattle.integer_laws.proofs.Order.{unsigned_abs-product}
use Rattle.butterfly64.proofs.LaneOps.{lanes_ask, lanes_give, asks_mul, gives_mul, lanes_long}
use Rattle.fixed_complex.proofs.Numbers.{within_eight}
use Rattle.butterfly64.proofs.lanes.products.Goals as goal

pub overflow_mul-result : goal.overflow_mul-result
overflow_mul-result c = lanes_ask _ c.args.x c.args.y (search rules) (search rules) (λ l h. asks_mul (number_at c.args.x l) (number_at c.args.y l) (c.requires.x l) (c.requires.y l))

pub returns-clause-value : goal.returns-clause-value
returns-clause-value c = λ l h. lanes_give _ c.args.x c.args.y l (search rules) (search rules) h ∙ gives_mul (number_at c.args.x l) (number_at c.args.y l) (c.requires.x l) (c.requires.y l)

pub returns-clause-bound : goal.returns-clause-bound
returns-clause-bound c = within_eight (2 ^ 60) _ (lanes_long _ c.args.x c.args.y (search rules) (search rules)) (λ l h. rw (returns-clause-value c l h) (unsigned_abs-product (number_at c.args.x l) (number_at c.args.y l) (2 ^ 20) (2 ^ 40) (c.requires.x l) (c.requires.y l)))
