-- Lists as the lanes read them, and sums by place (own).
use Rattle.std.specs.Prelude.{◌≡◌, ℕ, zero, suc, ◌<◌, ◌≤◌, List, [], ◌∷◌, fold, ℤ, pos, negsuc, ◌+ℤ◌, ◌-ℤ◌, ◌≤ℤ◌, FitsSigned}
use Rattle.fixed_complex.specs.declared.Sample.{Sample}
use Rattle.lane_kernels.specs.Kernels.{held_sum}
use Rattle.fixed_complex.specs.Samples.{sample_at}
use Rattle.fixed_complex.specs.Numbers.{number_at}
use Rattle.std.specs.Int.{w16, w32}

-- one entry for each of four lanes, and of eight
abbrev pub four : {X : Type 0} → (ℕ → X) → List X
four f = f 0 ∷ f 1 ∷ f 2 ∷ f 3 ∷ []

abbrev pub eight : {X : Type 0} → (ℕ → X) → List X
eight f = f 0 ∷ f 1 ∷ f 2 ∷ f 3 ∷ f 4 ∷ f 5 ∷ f 6 ∷ f 7 ∷ []

-- each number is a signed one of 16 bits, and of 32
abbrev pub AreOf16Bits : List ℤ → Type 0
AreOf16Bits numbers = (n : ℕ) → FitsSigned w16 (number_at numbers n)

abbrev pub AreOf32Bits : List ℤ → Type 0
AreOf32Bits numbers = (n : ℕ) → FitsSigned w32 (number_at numbers n)

-- the components of four samples in the order of memory
abbrev pub components_of : (ℕ → Sample) → List ℤ
components_of f = (f 0).i ∷ (f 0).q ∷ (f 1).i ∷ (f 1).q ∷ (f 2).i ∷ (f 2).q ∷ (f 3).i ∷ (f 3).q ∷ []

-- of each pair of neighbours -1 less the second, and the first
abbrev pub turned_of : (ℕ → ℤ) → List ℤ
turned_of f =
    (negsuc 0 -ℤ f 1) ∷ f 0 ∷ (negsuc 0 -ℤ f 3) ∷ f 2 ∷ (negsuc 0 -ℤ f 5) ∷ f 4 ∷ (negsuc 0 -ℤ f 7) ∷ f 6 ∷ []

-- a number as small as a product of two of 16 bits
pub record IsProduct (z : ℤ) : Type 0 where
  pub low : negsuc 1073709055 ≤ℤ z
  pub high : z ≤ℤ pos 1073741824

abbrev pub AreProducts : List ℤ → Type 0
AreProducts numbers = (n : ℕ) → IsProduct (number_at numbers n)

-- a number as small as a square of one of 16 bits
pub record IsSquare (z : ℤ) : Type 0 where
  pub low : pos 0 ≤ℤ z
  pub high : z ≤ℤ pos 1073741824

abbrev pub AreSquares : List ℤ → Type 0
AreSquares numbers = (n : ℕ) → IsSquare (number_at numbers n)

-- the sum of a list
abbrev pub total_of : List ℤ → ℤ
total_of = fold ◌+ℤ◌ (pos 0)

-- the sum of the numbers at the places below a number
unfoldable pub total_below : ℕ → (ℕ → ℤ) → ℤ
total_below zero f = pos 0
total_below (suc n) f = total_below n f +ℤ f n

-- from one place up to another the samples are the held sums of what was there and of b, and all others stay
pub record HoldsSums (from upto : ℕ) (old b new : List Sample) : Type 0 where
  pub before : (n : ℕ) → n < from → sample_at new n ≡ sample_at old n
  pub within : (n : ℕ) → from ≤ n → n < upto
      → sample_at new n ≡ held_sum (sample_at old n) (sample_at b n)
  pub behind : (n : ℕ) → upto ≤ n → sample_at new n ≡ sample_at old n
