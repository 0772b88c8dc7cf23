use Rattle.noise_script.specs.Noise.{generator_of}
use Rattle.noise_script.proofs.noise.generator.Goals as goal

pub returns : goal.returns
unfolding generator_of
returns c = c.new.ensures
