-- The ring law: two expressions in whole numbers are equal at all values of their variables where their normal forms
-- are the same.
use Rattle.std.proofs.Common.{◌≡◌, ℕ, zero, suc, Bool, true, List, [], ◌∷◌, get_or, refl, sym, ◌∙◌, ap}
use Rattle.std.specs.Prelude.{ℤ, pos, negsuc, ◌+ℤ◌, ◌-ℤ◌, ◌*ℤ◌, neg_ℤ}
use Rattle.std.proofs.Math.IntN.{+ℤ_assoc, +ℤ_idl, +ℤ_idr, +ℤ_invl}
use Rattle.integer_laws.proofs.Products.{*ℤ_one, minus_one-*ℤ}
use Rattle.integer_laws.proofs.Polynomials.{Poly, value_of, add, scale, times, is_zero, value-add, value-scale, value-times, value-is_zero}
use Rattle.integer_laws.proofs.Polynomials.Poly.{constant, node}

-- an expression: a variable by its number, a number, a sum, a difference, a product, a negation
infixl 6 ◌⊕◌ ◌⊖◌
infixl 7 ◌⊗◌
pub data Expr : Type 0 where
  variable : ℕ → Expr
  number : ℤ → Expr
  ◌⊕◌ : Expr → Expr → Expr
  ◌⊖◌ : Expr → Expr → Expr
  ◌⊗◌ : Expr → Expr → Expr
  negated : Expr → Expr

-- its value, where variable i has the i-th value of the list
abbrev pub value : List ℤ → Expr → ℤ
value xs (variable i) = get_or xs i (pos 0)
value xs (number c) = c
value xs (e ⊕ f) = value xs e +ℤ value xs f
value xs (e ⊖ f) = value xs e -ℤ value xs f
value xs (e ⊗ f) = value xs e *ℤ value xs f
value xs (negated e) = neg_ℤ (value xs e)

-- its normal form
abbrev pub normal : Expr → Poly
normal (variable i) = node i (constant (pos 0)) (constant (pos 1))
normal (number c) = constant c
normal (e ⊕ f) = add (normal e) (normal f)
normal (e ⊖ f) = add (normal e) (scale (negsuc 0) (normal f))
normal (e ⊗ f) = times (normal e) (normal f)
normal (negated e) = scale (negsuc 0) (normal e)

-- whether two expressions have the same normal form
abbrev pub same : Expr → Expr → Bool
same e f = is_zero (normal (e ⊖ f))

-- the square of an expression
abbrev pub square : Expr → Expr
square e = e ⊗ e

-- the normal form has the expression's value
pub value-normal : (xs : List ℤ) (e : Expr) → value_of (λ i. get_or xs i (pos 0)) (normal e) ≡ value xs e
value-normal xs (variable i) = +ℤ_idl (get_or xs i (pos 0) *ℤ pos 1) ∙ *ℤ_one (get_or xs i (pos 0))
value-normal xs (number c) = refl
value-normal xs (e ⊕ f) = rw (value-add _ (normal e) (normal f), value-normal xs e, value-normal xs f)
value-normal xs (e ⊖ f) = rw (value-add _ (normal e) (scale (negsuc 0) (normal f)), value-scale _ (negsuc 0) (normal f), value-normal xs e, value-normal xs f, minus_one-*ℤ)
value-normal xs (e ⊗ f) = rw (value-times _ (normal e) (normal f), value-normal xs e, value-normal xs f)
value-normal xs (negated e) = rw (value-scale _ (negsuc 0) (normal e), value-normal xs e, minus_one-*ℤ)

-- no difference
no_difference : (a b : ℤ) → a -ℤ b ≡ pos 0 → a ≡ b
no_difference a b e = sym (+ℤ_idr a) ∙ ap (λ s. a +ℤ s) (sym (+ℤ_invl b)) ∙ sym (+ℤ_assoc a (neg_ℤ b) b) ∙ ap (λ s. s +ℤ b) e ∙ +ℤ_idl b

-- the ring law on two expressions
pub same_value : (xs : List ℤ) (e f : Expr) → same e f ≡ true → value xs e ≡ value xs f
same_value xs e f h = no_difference (value xs e) (value xs f) (sym (value-normal xs (e ⊖ f)) ∙ value-is_zero _ (normal (e ⊖ f)) h)

-- an equation of two expressions, and a family of equations in n variables
infix 4 ◌≗◌
pub data Equation : Type 0 where
  ◌≗◌ : Expr → Expr → Equation

abbrev pub Law : ℕ → Type 0
Law zero = Equation
Law (suc n) = Expr → Law n

-- the equation's two expressions have the same normal form, each variable being a number of its own
abbrev pub is_law : (n : ℕ) → Law n → Bool
is_law zero (e ≗ f) = same e f
is_law (suc n) law = is_law n (law (variable n))

-- they have one value at all values of the variables that are not in the list yet
abbrev pub Holds : (n : ℕ) → Law n → List ℤ → Type 0
Holds zero (e ≗ f) xs = value xs e ≡ value xs f
Holds (suc n) law xs = (x : ℤ) → Holds n (law (variable n)) (x ∷ xs)

holds : (n : ℕ) (law : Law n) (xs : List ℤ) → is_law n law ≡ true → Holds n law xs
holds zero (e ≗ f) xs h = same_value xs e f h
holds (suc n) law xs h = λ x. holds n (law (variable n)) (x ∷ xs) h

-- the ring law: what has the same normal form is equal at all values of the variables
pub ring : (n : ℕ) (law : Law n) → is_law n law ≡ true → Holds n law []
ring n law h = holds n law [] h

-- what differs by a multiple of the difference of equal numbers is equal
pub equal_by_multiple : (a b k p q : ℤ) → p ≡ q → a -ℤ b ≡ k *ℤ (p -ℤ q) → a ≡ b
equal_by_multiple a b k p q e h =
    let nothing : k *ℤ (q -ℤ q) ≡ pos 0 = ring 2 (λ k q. k ⊗ (q ⊖ q) ≗ number (pos 0)) refl k q in
    no_difference a b (h ∙ ap (λ s. k *ℤ (s -ℤ q)) e ∙ nothing)
