use Rattle.fixed_complex.specs.Numbers.{number_at}
use Rattle.std.proofs.Common.{rules, ◌∙◌}
use Rattle.butterfly64.proofs.LaneOps.{lanes_ask, lanes_give, asks_add, gives_add}
use Rattle.butterfly64.proofs.lanes.sums.Goals as goal

pub overflow_add-result : goal.overflow_add-result
overflow_add-result c = lanes_ask _ c.args.x c.args.y (search rules) (search rules) (λ l h. asks_add (number_at c.args.x l) (number_at c.args.y l) (c.requires.x l) (c.requires.y l))

pub returns : goal.returns
returns c = λ l h. lanes_give _ c.args.x c.args.y l (search rules) (search rules) h ∙ gives_add (number_at c.args.x l) (number_at c.args.y l) (c.requires.x l) (c.requires.y l)
