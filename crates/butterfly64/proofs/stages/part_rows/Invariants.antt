use Rattle.butterfly64.specs.Rows.{place_in}
use Rattle.butterfly64.proofs.RowStages.{AreWritten, sum_at, turned_difference_at}
use Rattle.butterfly64.proofs.stages.part_rows.Given as goal

abbrev pub invariant-loop-p : goal.invariant-loop-p
invariant-loop-p l = AreWritten l.p (sum_at l.stage (place_in l.x)) (turned_difference_at l.stage (place_in l.x)) l.y
