use Rattle.noise_script.proofs.Noises.{length-noise, noise_bound, noise_within}
use Rattle.noise_script.proofs.laws.noise_within_its_bound.Goals as goal

pub returns-clause-component : goal.returns-clause-component
returns-clause-component c = λ bound word. noise_bound bound word

pub returns-clause-samples : goal.returns-clause-samples
returns-clause-samples c = λ bound count words. noise_within bound count words

pub returns-clause-len : goal.returns-clause-len
returns-clause-len c = λ bound count words. length-noise bound count words
