use Rattle.frames_in_echoes.proofs.Captures.{echo_of_capture_is_near, echo_of_capture_is_there, echo_of_list_is_there}
use Rattle.frames_in_echoes.proofs.laws.echoes_of_captures.Goals as goal

pub returns-clause-near : goal.returns-clause-near
returns-clause-near c = echo_of_capture_is_near

pub returns-clause-there : goal.returns-clause-there
returns-clause-there c = echo_of_capture_is_there

pub returns-clause-list : goal.returns-clause-list
returns-clause-list c = echo_of_list_is_there
