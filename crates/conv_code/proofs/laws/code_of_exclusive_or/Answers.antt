use Rattle.conv_code.proofs.Linear.{code_of-exclusive_ors}
use Rattle.conv_code.proofs.laws.code_of_exclusive_or.Goals as goal

pub returns : goal.returns
returns c = code_of-exclusive_ors
