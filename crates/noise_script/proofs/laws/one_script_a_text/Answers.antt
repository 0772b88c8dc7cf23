use Rattle.noise_script.proofs.Sames.{one_script}
use Rattle.noise_script.proofs.laws.one_script_a_text.Goals as goal

pub returns : goal.returns
returns c = λ a b text p q. one_script 16 a b text p q
