use Rattle.noise_script.proofs.Effects.{after_frame}
use Rattle.noise_script.proofs.laws.what_a_frame_script_does.Goals as goal

pub returns : goal.returns
returns c = λ lead bound seed trail samples. after_frame lead bound seed trail samples
