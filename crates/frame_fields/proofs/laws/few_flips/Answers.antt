use Rattle.frame_fields.proofs.FieldLaws.{few_flips}
use Rattle.frame_fields.proofs.laws.few_flips.Goals as goal

pub returns : goal.returns
returns c = few_flips
