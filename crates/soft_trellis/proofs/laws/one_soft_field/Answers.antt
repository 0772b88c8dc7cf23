use Rattle.soft_trellis.proofs.SoftFields.{one_field, some_field}
use Rattle.soft_trellis.proofs.laws.one_soft_field.Goals as goal

pub returns-clause-some : goal.returns-clause-some
returns-clause-some c = some_field

pub returns-clause-no_other : goal.returns-clause-no_other
returns-clause-no_other c = one_field
