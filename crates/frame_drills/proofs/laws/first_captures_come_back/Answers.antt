use Rattle.frame_drills.proofs.Noisy.{first_comes_back, first_is_in_noise}
use Rattle.frame_drills.proofs.laws.first_captures_come_back.Goals as goal

pub returns-clause-near : goal.returns-clause-near
returns-clause-near c = first_is_in_noise

pub returns-clause-back : goal.returns-clause-back
returns-clause-back c = first_comes_back
