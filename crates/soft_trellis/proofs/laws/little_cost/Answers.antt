use Rattle.soft_trellis.proofs.SoftFields.{little_field}
use Rattle.soft_trellis.proofs.laws.little_cost.Goals as goal

pub returns : goal.returns
returns c = little_field
