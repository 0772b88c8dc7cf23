-- Polynomials over whole numbers, with their sums and products, which compute.
use Rattle.std.proofs.Common.{◌≡◌, ℕ, zero, suc, Bool, true, false, ◌&&◌, T, ltb, leb, eqb, eqb→eq, refl, sym, ◌∙◌, ap, subst, arith}
use Rattle.std.specs.Prelude.{ℤ, pos, negsuc, ◌+ℤ◌, ◌*ℤ◌}
use Rattle.std.proofs.Math.IntN.{+ℤ_assoc, +ℤ_idl, *ℤ_comm, zero-*ℤ, *ℤ-zero}
use Rattle.integer_laws.proofs.Products.{*ℤ_assoc, *ℤ-+ℤ, +ℤ-*ℤ}
use borrow.Author.Differences.{same_in, same_out, sum_is_lem}

-- for `omega`: sums of numbers, where a product is an unknown
ruleset sums = (same_in, same_out, sum_is_lem)

-- `constant c` is c, and `node i p q` is p plus the i-th variable times q. In a normal form p has only variables after
-- the i-th, and q none before it
pub data Poly : Type 0 where
  constant : ℤ → Poly
  node : ℕ → Poly → Poly → Poly

-- the value where the variables have the values v
abbrev pub value_of : (ℕ → ℤ) → Poly → ℤ
value_of v (constant c) = c
value_of v (node i p q) = value_of v p +ℤ v i *ℤ value_of v q

-- one of two polynomials, which waits until the test is known
abbrev pick : Bool → (Unit {0} → Poly) → (Unit {0} → Poly) → Poly
pick true f g = f tt
pick false f g = g tt

-- a constant plus a polynomial
abbrev add_constant : ℤ → Poly → Poly
add_constant c (constant d) = constant (c +ℤ d)
add_constant c (node i p q) = node i (add_constant c p) q

-- `node i p q` plus a polynomial, where `f` adds p and `g` adds q
abbrev add_node : ℕ → Poly → Poly → (Poly → Poly) → (Poly → Poly) → Poly → Poly
add_node i p q f g (constant c) = node i (f (constant c)) q
add_node i p q f g (node j s t) =
    pick (ltb i j)
    (λ u. node i (f (node j s t)) q)
    (λ u. pick (eqb i j) (λ w. node i (f s) (g t)) (λ w. node j (add_node i p q f g s) t))

-- a sum
abbrev pub add : Poly → Poly → Poly
add (constant c) r = add_constant c r
add (node i p q) r = add_node i p q (add p) (add q) r

-- a number times a polynomial
abbrev pub scale : ℤ → Poly → Poly
scale c (constant d) = constant (c *ℤ d)
scale c (node i p q) = node i (scale c p) (scale c q)

-- the i-th variable times a polynomial
abbrev times_variable : ℕ → Poly → Poly
times_variable i (constant c) = node i (constant (pos 0)) (constant c)
times_variable i (node j p q) =
    pick (leb i j)
    (λ u. node i (constant (pos 0)) (node j p q))
    (λ u. node j (times_variable i p) (times_variable i q))

-- a product
abbrev pub times : Poly → Poly → Poly
times (constant (pos zero)) r = constant (pos 0)
times (constant c) r = scale c r
times (node i p q) r = add (times p r) (times_variable i (times q r))

-- every coefficient is 0
abbrev pub is_zero : Poly → Bool
is_zero (constant (pos zero)) = true
is_zero (constant c) = false
is_zero (node i p q) = is_zero p && is_zero q

-- a factor moves past another
swap_factors : (a b c : ℤ) → a *ℤ (b *ℤ c) ≡ b *ℤ (a *ℤ c)
swap_factors a b c = sym (*ℤ_assoc a b c) ∙ ap (λ s. s *ℤ c) (*ℤ_comm a b) ∙ *ℤ_assoc b a c

module _ (v : ℕ → ℤ) where
  -- the value of one of two, by cases
  value-pick : (b : Bool) (f g : Unit {0} → Poly) (z : ℤ) → (b ≡ true → value_of v (f tt) ≡ z) → (b ≡ false → value_of v (g tt) ≡ z) → value_of v (pick b f g) ≡ z
  value-pick true f g z at_true at_false = at_true refl
  value-pick false f g z at_true at_false = at_false refl

  value-add_constant : (c : ℤ) (r : Poly) → value_of v (add_constant c r) ≡ c +ℤ value_of v r
  value-add_constant c (constant d) = refl
  value-add_constant c (node i p q) = ap (λ s. s +ℤ v i *ℤ value_of v q) (value-add_constant c p) ∙ +ℤ_assoc c (value_of v p) (v i *ℤ value_of v q)

  value-add_node : (i : ℕ) (p q : Poly) (f g : Poly → Poly) → ((r : Poly) → value_of v (f r) ≡ value_of v p +ℤ value_of v r) → ((r : Poly) → value_of v (g r) ≡ value_of v q +ℤ value_of v r) → (r : Poly) → value_of v (add_node i p q f g r) ≡ value_of v (node i p q) +ℤ value_of v r
  value-add_node i p q f g left right (constant c) = omega (arith, sums, left (constant c))
  value-add_node i p q f g left right (node j s t) =
      let z = value_of v (node i p q) +ℤ value_of v (node j s t) in
      value-pick (ltb i j) _ _ z
      (λ before. omega (arith, sums, left (node j s t)))
      (λ not_before. value-pick (eqb i j) _ _ z
      (λ same. added (value_of v p) (value_of v q) (value_of v s) (value_of v t) (v i) (v j) _ _ (left s) (right t) (ap v (eqb→eq i j (subst T (sym same) tt))))
      (λ after. omega (arith, sums, value-add_node i p q f g left right s)))
    where
      added : (p q s t x y ps qt : ℤ) → ps ≡ p +ℤ s → qt ≡ q +ℤ t → x ≡ y → ps +ℤ x *ℤ qt ≡ p +ℤ x *ℤ q +ℤ (s +ℤ y *ℤ t)
      added p q s t x y ps qt first second e = rw (first, second, ← e, *ℤ-+ℤ x q t) (omega (arith, sums))

  -- the value of a sum is the sum of the values
  pub value-add : (p r : Poly) → value_of v (add p r) ≡ value_of v p +ℤ value_of v r
  value-add (constant c) r = value-add_constant c r
  value-add (node i p q) r = value-add_node i p q (add p) (add q) (value-add p) (value-add q) r

  -- and likewise of a number times a polynomial
  pub value-scale : (c : ℤ) (r : Poly) → value_of v (scale c r) ≡ c *ℤ value_of v r
  value-scale c (constant d) = refl
  value-scale c (node i p q) = rw (value-scale c p, value-scale c q, *ℤ-+ℤ c (value_of v p) (v i *ℤ value_of v q), swap_factors c (v i) (value_of v q))

  value-times_variable : (i : ℕ) (r : Poly) → value_of v (times_variable i r) ≡ v i *ℤ value_of v r
  value-times_variable i (constant c) = +ℤ_idl (v i *ℤ c)
  value-times_variable i (node j p q) =
      value-pick (leb i j) _ _ (v i *ℤ value_of v (node j p q))
      (λ within. +ℤ_idl (v i *ℤ value_of v (node j p q)))
      (λ past. rw (value-times_variable i p, value-times_variable i q, *ℤ-+ℤ (v i) (value_of v p) (v j *ℤ value_of v q), swap_factors (v i) (v j) (value_of v q)))

  -- and of a product
  pub value-times : (p r : Poly) → value_of v (times p r) ≡ value_of v p *ℤ value_of v r
  value-times (constant (pos zero)) r = sym (zero-*ℤ (value_of v r))
  value-times (constant (pos (suc n))) r = value-scale (pos (suc n)) r
  value-times (constant (negsuc n)) r = value-scale (negsuc n) r
  value-times (node i p q) r =
      rw (value-add (times p r) (times_variable i (times q r)), value-times p r, value-times_variable i (times q r), value-times q r, +ℤ-*ℤ (value_of v p) (v i *ℤ value_of v q) (value_of v r), *ℤ_assoc (v i) (value_of v q) (value_of v r))

  -- where every coefficient is 0, so is the value
  pub value-is_zero : (p : Poly) → is_zero p ≡ true → value_of v p ≡ pos 0
  value-is_zero (constant (pos zero)) e = refl
  value-is_zero (constant (pos (suc n))) e = absurd (cc)
  value-is_zero (constant (negsuc n)) e = absurd (cc)
  value-is_zero (node i p q) e =
      rw (value-is_zero p (both (is_zero p) (is_zero q) e).0, value-is_zero q (both (is_zero p) (is_zero q) e).1, *ℤ-zero (v i))
    where
      both : (a b : Bool) → (a && b) ≡ true → (a ≡ true) × (b ≡ true)
      both true b e = (refl, e)
      both false b e = absurd (cc)
