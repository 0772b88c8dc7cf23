use Rattle.std.proofs.Common.{ap, ◌∙◌, arith}
use Rattle.std.specs.Prelude.{◌+ℤ◌}
use Rattle.fixed_complex.specs.Numbers.{number_at}
use Rattle.butterfly64.proofs.RowLanes.{sums_fit, sums_are, lane_of}
use Rattle.butterfly64.proofs.rows.word_sums.Goals as goal

pub overflow_add-result : goal.overflow_add-result
overflow_add-result c = sums_fit c.args.x c.args.y c.requires.x c.requires.y

pub returns : goal.returns
returns c = λ l h.
    ap (λ r. number_at r l) (sums_are c.args.x c.args.y c.requires.x c.requires.y) ∙ lane_of ◌+ℤ◌ c.args.x c.args.y l (omega arith) (omega arith) h
