use Rattle.std.proofs.Common.{lit<}
use Rattle.fixed_complex.specs.Pairs.{times, scaled_product}
use Rattle.integer_laws.proofs.FloorDivision.{rounding_within}
use Rattle.fixed_complex.proofs.laws.rounding_of_products.Goals as goal

pub returns : goal.returns
unfolding scaled_product
returns c = λ w z. record {
  re = rounding_within (times w z).re 524288 (lit< tt);
  im = rounding_within (times w z).im 524288 (lit< tt);
}
