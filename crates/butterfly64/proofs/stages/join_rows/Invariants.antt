use Rattle.butterfly64.specs.Rows.{place_in}
use Rattle.butterfly64.proofs.RowStages.{AreWritten, joined_difference, joined_sum}
use Rattle.butterfly64.proofs.stages.join_rows.Given as goal

abbrev pub invariant-loop-p : goal.invariant-loop-p
invariant-loop-p l = AreWritten l.p (joined_sum l.stage (place_in l.x)) (joined_difference l.stage (place_in l.x)) l.y
