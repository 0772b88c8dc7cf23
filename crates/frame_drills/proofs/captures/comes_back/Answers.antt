use Rattle.std.proofs.Common.{Err, ap}
use Rattle.frame_drills.proofs.Back.{none_back, told_back}
use Rattle.frame_drills.proofs.captures.comes_back.Goals as goal

pub returns-in-Ok-clause-back : goal.returns-in-Ok-clause-back
returns-in-Ok-clause-back c = told_back c.args.capture.now _ _ c.args.frame.now c.is_alone.result c.in-Ok.ensures.findings c.is_alone.ensures

pub returns-in-Err-NoFrame-clause-back : goal.returns-in-Err-NoFrame-clause-back
returns-in-Err-NoFrame-clause-back c = none_back c.args.capture.now _ c.args.frame.now (c.in-Err-NoFrame.ensures.no_frame (ap Err c.in-Err-NoFrame.field-0-is))

pub returns-in-Err-CutFrame-clause-back : goal.returns-in-Err-CutFrame-clause-back
returns-in-Err-CutFrame-clause-back c = none_back c.args.capture.now _ c.args.frame.now (c.in-Err-CutFrame.ensures.cut_frame _ _ _ (ap Err c.in-Err-CutFrame.field-0-is))
