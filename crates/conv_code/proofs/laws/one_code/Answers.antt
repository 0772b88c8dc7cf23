use Rattle.conv_code.proofs.Coded.{Codes-code_of}
use Rattle.conv_code.proofs.Linear.{same_from_Codes}
use Rattle.conv_code.proofs.laws.one_code.Goals as goal

pub returns-clause-codes : goal.returns-clause-codes
returns-clause-codes c = Codes-code_of

pub returns-clause-no_other : goal.returns-clause-no_other
returns-clause-no_other c = same_from_Codes
