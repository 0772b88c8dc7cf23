-- The ring law on pairs of whole numbers, each read as a complex number: two expressions in pairs are equal, component
-- by component, where the normal forms of both components are the same.
use Rattle.std.proofs.Common.{◌≡◌, ℕ, zero, suc, ◌*◌, Bool, true, ◌&&◌, List, [], ◌∷◌}
use Rattle.std.specs.Prelude.{ℤ}
use Rattle.std.proofs.lemmas.Bool.{and_parts}
use Rattle.integer_laws.proofs.Ring.{Expr, variable, number, negated, ◌⊕◌, ◌⊖◌, ◌⊗◌, value, same, same_value}

-- a pair of expressions
pub record Pair : Type 0 where
  pub re : Expr
  pub im : Expr

-- a sum, a difference and the complex product
infixl 6 ◌⊞◌ ◌⊟◌
infixl 7 ◌⊠◌
abbrev pub ◌⊞◌ : Pair → Pair → Pair
a ⊞ b = record { re = a.re ⊕ b.re; im = a.im ⊕ b.im }

abbrev pub ◌⊟◌ : Pair → Pair → Pair
a ⊟ b = record { re = a.re ⊖ b.re; im = a.im ⊖ b.im }

abbrev pub ◌⊠◌ : Pair → Pair → Pair
a ⊠ b = record { re = a.re ⊗ b.re ⊖ a.im ⊗ b.im; im = a.re ⊗ b.im ⊕ a.im ⊗ b.re }

-- the conjugate, a number times a pair, and a pair of two numbers
abbrev pub conjugated : Pair → Pair
conjugated a = record { re = a.re; im = negated a.im }

abbrev pub multiplied : Expr → Pair → Pair
multiplied n a = record { re = n ⊗ a.re; im = n ⊗ a.im }

abbrev pub numbers : ℤ → ℤ → Pair
numbers re im = record { re = number re; im = number im }

-- an equation of two such expressions, and a family of equations in n variables
infix 4 ◌≑◌
pub data PairEquation : Type 0 where
  ◌≑◌ : Pair → Pair → PairEquation

abbrev pub PairLaw : ℕ → Type 0
PairLaw zero = PairEquation
PairLaw (suc n) = Pair → PairLaw n

-- the pair of two variables, the n-th
abbrev pub pair_variable : ℕ → Pair
pair_variable n = record { re = variable (suc (2 * n)); im = variable (2 * n) }

-- both components have the same normal form, each variable being two numbers of its own
abbrev pub is_pair_law : (n : ℕ) → PairLaw n → Bool
is_pair_law zero (a ≑ b) = same a.re b.re && same a.im b.im
is_pair_law (suc n) law = is_pair_law n (law (pair_variable n))

-- they have one value at all values of the variables that are not in the list yet
abbrev pub PairHolds : (n : ℕ) → PairLaw n → List ℤ → Type 0
PairHolds zero (a ≑ b) xs = (value xs a.re ≡ value xs b.re) × (value xs a.im ≡ value xs b.im)
PairHolds (suc n) law xs = (re im : ℤ) → PairHolds n (law (pair_variable n)) (im ∷ re ∷ xs)

pair_holds : (n : ℕ) (law : PairLaw n) (xs : List ℤ) → is_pair_law n law ≡ true → PairHolds n law xs
pair_holds zero (a ≑ b) xs h =
    let parts = and_parts (same a.re b.re) (same a.im b.im) h in
    (same_value xs a.re b.re parts.0, same_value xs a.im b.im parts.1)
pair_holds (suc n) law xs h = λ re im. pair_holds n (law (pair_variable n)) (im ∷ re ∷ xs) h

-- the ring law on pairs, each given by its two components
pub pair_ring : (n : ℕ) (law : PairLaw n) → is_pair_law n law ≡ true → PairHolds n law []
pair_ring n law h = pair_holds n law [] h
