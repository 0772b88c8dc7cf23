use Rattle.integer_laws.proofs.Order.{square_not_negative, unsigned_abs-le, square_within}
use Rattle.integer_laws.proofs.squares_of_numbers.Goals as goal

pub returns : goal.returns
returns c = record {
  not_negative = square_not_negative;
  within = λ x b. (unsigned_abs-le x b, square_within x b);
}
