use Rattle.command_answers.proofs.InEchoes.{echoed_outcome}
use Rattle.command_answers.proofs.laws.echoed_capture_gives_its_frame.Goals as goal

pub returns : goal.returns
returns c = echoed_outcome c.an_echoed_frame_is_read.ensures.there
