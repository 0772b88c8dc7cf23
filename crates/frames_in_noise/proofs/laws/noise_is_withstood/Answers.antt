use Rattle.frames_in_noise.proofs.Walking.{noise_is_withstood, nothing_else_is_found}
use Rattle.frames_in_noise.proofs.laws.noise_is_withstood.Goals as goal

pub returns-clause-found : goal.returns-clause-found
returns-clause-found c = noise_is_withstood

pub returns-clause-nothing_else : goal.returns-clause-nothing_else
returns-clause-nothing_else c = nothing_else_is_found
