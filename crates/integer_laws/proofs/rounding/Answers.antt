use Rattle.integer_laws.proofs.FloorDivision.{rounding_within, rounded_within}
use Rattle.integer_laws.proofs.rounding.Goals as goal

pub returns : goal.returns
returns c = record {
  nearest = rounding_within;
  within = rounded_within;
}
