use Rattle.std.proofs.Common.{◌∙◌, map, pos, arith}
use Rattle.std.proofs.lemmas.List.{length-map}
use Rattle.lane_kernels.proofs.FourLanes.{numbers_fit, numbers_are, four_sums, sums-grow}
use Rattle.lane_kernels.proofs.lanes.add_numbers.Goals as goal

pub overflow_add-result : goal.overflow_add-result
overflow_add-result c = numbers_fit c.args.sums c.args.more c.requires.sums c.requires.more

pub returns-clause-value : goal.returns-clause-value
returns-clause-value c =
    numbers_are c.args.sums c.args.more c.requires.sums c.requires.more ∙ four_sums c.args.sums (map pos c.args.more) (omega arith) (length-map c.args.more pos ∙ omega arith)

pub returns-clause-grown : goal.returns-clause-grown
returns-clause-grown c = λ bound step within more. sums-grow c.args.sums _ (map pos c.args.more) bound step (returns-clause-value c) within more
