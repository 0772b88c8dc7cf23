use Rattle.integer_laws.proofs.Sizes.{size_of_sum, size_of_difference}
use Rattle.integer_laws.proofs.triangle.Goals as goal

pub returns : goal.returns
returns c = record {
  sum = size_of_sum;
  difference = size_of_difference;
}
