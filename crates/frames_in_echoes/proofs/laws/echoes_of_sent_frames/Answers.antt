use Rattle.frames_in_echoes.proofs.Sent.{echo_is_near, echo_is_not_held}
use Rattle.frames_in_echoes.proofs.laws.echoes_of_sent_frames.Goals as goal

pub returns-clause-near : goal.returns-clause-near
returns-clause-near c = echo_is_near

pub returns-clause-not_held : goal.returns-clause-not_held
returns-clause-not_held c = echo_is_not_held
