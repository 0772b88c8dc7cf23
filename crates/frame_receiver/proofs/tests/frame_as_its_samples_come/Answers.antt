use Rattle.std.proofs.Common.{arith}
use Rattle.frame_receiver.proofs.tests.frame_as_its_samples_come.Goals as goal

pub frames_found-requires : goal.frames_found-requires
frames_found-requires g c = omega (arith, c.in_ok-receiver.ensures.none, c.begun.ensures)

pub push-requires : goal.push-requires
push-requires g c = omega (arith, c.in_ok-receiver.ensures.none, c.begun.ensures, c.frames_found.ensures)
