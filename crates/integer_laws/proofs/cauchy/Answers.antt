use Rattle.integer_laws.proofs.Sizes.{cauchy, sum_of_products_within}
use Rattle.integer_laws.proofs.cauchy.Goals as goal

pub returns : goal.returns
returns c = record {
  squares = cauchy;
  sizes = sum_of_products_within;
}
