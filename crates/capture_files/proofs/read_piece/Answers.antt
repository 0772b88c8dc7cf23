use Rattle.std.proofs.Common.{◌≤◌, length, take, arith}
use Rattle.std.proofs.lemmas.Grind.{common_steps}
use Rattle.capture_files.proofs.read_piece.Goals as goal

pub returns-in_err-push_whole-clause-taken : goal.returns-in_err-push_whole-clause-taken
returns-in_err-push_whole-clause-taken g c =
    let long : length (take c.in-Ok.count c.read.new.buf) ≤ c.in-Ok.count = grind (arith, common_steps) in
    (take c.in-Ok.count c.read.new.buf, omega (arith, long, c.if-count-room.false, c.len.ensures, c.rest.ensures.count, c.from.ensures), c.in-Ok.ensures.step.given)

pub returns-clause-taken : goal.returns-clause-taken
returns-clause-taken g c =
    let long : length (take c.in-Ok.count c.read.new.buf) ≤ c.in-Ok.count = grind (arith, common_steps) in
    (take c.in-Ok.count c.read.new.buf, omega (arith, long, c.if-count-room.false, c.len.ensures, c.rest.ensures.count, c.from.ensures), c.in-Ok.ensures.step.given)
