use Rattle.soft_trellis.proofs.SoftFields.{full_field}
use Rattle.soft_trellis.proofs.laws.full_values_are_hard.Goals as goal

pub returns : goal.returns
returns c = full_field
