use Rattle.integer_laws.proofs.Sizes.{sum_of_squares-product, size_of_product, size_of_product_with_conjugate, size_of_scaled}
use Rattle.integer_laws.proofs.product_of_sizes.Goals as goal

pub returns : goal.returns
returns c = record {
  squares = sum_of_squares-product;
  product = size_of_product;
  with_conjugate = size_of_product_with_conjugate;
  with_number = size_of_scaled;
}
