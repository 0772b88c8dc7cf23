-- Pairs with the same parts are the same.
use Rattle.std.proofs.Common.{◌≡◌}
use Rattle.fixed_complex.specs.declared.Cx.{Cx}

pub same_parts : (a b : Cx) → a.re ≡ b.re → a.im ≡ b.im → a ≡ b
same_parts a b re im = λ i. record { re = re i; im = im i }
