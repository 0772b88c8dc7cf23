-- Sums and differences of products, as the code computes them in 64 bits.
use Rattle.std.proofs.Common.{◌≡◌, ◌^◌, ◌≤◌, ℤ, ◌+ℤ◌, ◌-ℤ◌, ◌*ℤ◌, ◌∙◌, ap, arith, w64, to_z, of_z, unsigned_abs, FitsSigned}
use Rattle.std.proofs.lemmas.Int.{ints}
use Rattle.fixed_complex.specs.Rounding.{half_up}

-- a number that went through 64 bits
abbrev pub held : ℤ → ℤ
held z = to_z w64 (of_z w64 z)

pub held_is : (z : ℤ) → unsigned_abs z ≤ 2 ^ 62 → held z ≡ z
held_is z small = omega (arith, ints)

held_product : (a b : ℤ) → unsigned_abs a ≤ 2 ^ 40 → unsigned_abs b ≤ 2 ^ 40 → held a *ℤ held b ≡ a *ℤ b
held_product a b small_a small_b =
    ap (λ m. m *ℤ held b) (held_is a (omega arith)) ∙ ap (λ m. a *ℤ m) (held_is b (omega arith))

-- the difference of two products
pub difference_of : (p q a b x y : ℤ) → unsigned_abs p ≤ 2 ^ 60 → unsigned_abs q ≤ 2 ^ 60 → unsigned_abs a ≤ 2 ^ 40 → unsigned_abs b ≤ 2 ^ 40 → unsigned_abs x ≤ 2 ^ 40 → unsigned_abs y ≤ 2 ^ 40 → p ≡ held a *ℤ held b → q ≡ held x *ℤ held y → held (held p -ℤ held q) ≡ a *ℤ b -ℤ x *ℤ y
difference_of p q a b x y small_p small_q small_a small_b small_x small_y at_p at_q =
    let computed : held (held p -ℤ held q) ≡ p -ℤ q = omega (arith, ints) in
    computed ∙ ap (λ m. m -ℤ q) (at_p ∙ held_product a b small_a small_b) ∙ ap (λ m. a *ℤ b -ℤ m) (at_q ∙ held_product x y small_x small_y)

-- the sum of two products
pub sum_of : (p q a b x y : ℤ) → unsigned_abs p ≤ 2 ^ 60 → unsigned_abs q ≤ 2 ^ 60 → unsigned_abs a ≤ 2 ^ 40 → unsigned_abs b ≤ 2 ^ 40 → unsigned_abs x ≤ 2 ^ 40 → unsigned_abs y ≤ 2 ^ 40 → p ≡ held a *ℤ held b → q ≡ held x *ℤ held y → held (held p +ℤ held q) ≡ a *ℤ b +ℤ x *ℤ y
sum_of p q a b x y small_p small_q small_a small_b small_x small_y at_p at_q =
    let computed : held (held p +ℤ held q) ≡ p +ℤ q = omega (arith, ints) in
    computed ∙ ap (λ m. m +ℤ q) (at_p ∙ held_product a b small_a small_b) ∙ ap (λ m. a *ℤ b +ℤ m) (at_q ∙ held_product x y small_x small_y)

pub difference_within : (p q : ℤ) → unsigned_abs p ≤ 2 ^ 60 → unsigned_abs q ≤ 2 ^ 60 → unsigned_abs (held (held p -ℤ held q)) ≤ 2 ^ 61
difference_within p q small_p small_q = omega (arith, ints)

pub sum_fits : (p q : ℤ) → unsigned_abs p ≤ 2 ^ 60 → unsigned_abs q ≤ 2 ^ 60 → FitsSigned w64 (held p +ℤ held q)
sum_fits p q small_p small_q = omega (arith, ints)

-- a rounded number of few bits
pub rounded_is : (n m part : ℤ) → unsigned_abs n ≤ 2 ^ 42 → n ≡ half_up 20 m → m ≡ part → held n ≡ half_up 20 part
rounded_is n m part small at_n at_m = held_is n (omega arith) ∙ at_n ∙ ap (half_up 20) at_m
