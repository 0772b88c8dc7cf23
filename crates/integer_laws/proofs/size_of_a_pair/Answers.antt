use Rattle.integer_laws.proofs.Sizes.{first_within, second_within, size_of_parts, size_monotone}
use Rattle.integer_laws.proofs.size_of_a_pair.Goals as goal

pub returns : goal.returns
returns c = record {
  first = first_within;
  second = second_within;
  bounded = size_of_parts;
  monotone = size_monotone;
}
