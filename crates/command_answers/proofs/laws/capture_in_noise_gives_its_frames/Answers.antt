use Rattle.command_answers.proofs.InNoise.{outcome_in_noise}
use Rattle.command_answers.proofs.laws.capture_in_noise_gives_its_frames.Goals as goal

pub returns : goal.returns
returns c = outcome_in_noise c.noise_is_withstood.ensures.found
