use Rattle.std.proofs.Math.IntN.{*ℤ_comm}
use Rattle.integer_laws.proofs.Products.{*ℤ_assoc, *ℤ-+ℤ, *ℤ--ℤ, *ℤ-neg_ℤ}
use Rattle.integer_laws.proofs.laws_of_products.Goals as goal

pub returns : goal.returns
returns c = record {
  regroups = *ℤ_assoc;
  swaps = *ℤ_comm;
  with_sum = *ℤ-+ℤ;
  with_difference = *ℤ--ℤ;
  with_negation = *ℤ-neg_ℤ;
}
