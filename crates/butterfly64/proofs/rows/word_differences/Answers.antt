use Rattle.std.proofs.Common.{ap, ◌∙◌, arith}
use Rattle.std.specs.Prelude.{◌-ℤ◌}
use Rattle.fixed_complex.specs.Numbers.{number_at}
use Rattle.butterfly64.proofs.RowLanes.{differences_fit, differences_are, lane_of}
use Rattle.butterfly64.proofs.rows.word_differences.Goals as goal

pub overflow_sub-result : goal.overflow_sub-result
overflow_sub-result c = differences_fit c.args.x c.args.y c.requires.x c.requires.y

pub returns : goal.returns
returns c = λ l h.
    ap (λ r. number_at r l) (differences_are c.args.x c.args.y c.requires.x c.requires.y) ∙ lane_of ◌-ℤ◌ c.args.x c.args.y l (omega arith) (omega arith) h
