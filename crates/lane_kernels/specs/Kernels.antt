-- Sums, scans and counts over lists of samples and of bytes (own).
use Rattle.std.specs.Prelude.{ℕ, List, [], ◌∷◌, Bool, ◌||◌, nat_lt, ℤ, pos, neg_ℤ, ◌+ℤ◌, ◌*ℤ◌, unsigned_abs}
use Rattle.std.specs.Int.{int_max, int_min}
use Rattle.std.specs.List.{position_or_len}
use Rattle.fixed_complex.specs.declared.Cx.{Cx}
use Rattle.fixed_complex.specs.declared.Sample.{Sample}
use Rattle.fixed_complex.specs.Pairs.{conjugate, plus, times, zero_pair}
use Rattle.fixed_complex.specs.Samples.{pair_of}

-- the product of a sample with the conjugate of another
abbrev pub product_of : Sample → Sample → Cx
product_of x y = times (pair_of x) (conjugate (pair_of y))

-- the sum of the products of the one list's samples with the conjugates of the other's, place by place
unfoldable pub dot_of : List Sample → List Sample → Cx
dot_of [] ys = zero_pair
dot_of (x ∷ xs) [] = zero_pair
dot_of (x ∷ xs) (y ∷ ys) = plus (product_of x y) (dot_of xs ys)

-- the square of a sample's size
abbrev pub power_of : Sample → ℤ
power_of sample = sample.i *ℤ sample.i +ℤ sample.q *ℤ sample.q

-- the sum of the squares of the samples' sizes
unfoldable pub energy_of : List Sample → ℤ
energy_of [] = pos 0
energy_of (sample ∷ samples) = power_of sample +ℤ energy_of samples

-- a sample is loud where a component is larger than 256 in size
abbrev pub is_loud : Sample → Bool
is_loud sample = nat_lt 256 (unsigned_abs sample.i) || nat_lt 256 (unsigned_abs sample.q)

-- the place of the first loud sample, or the length
unfoldable pub first_loud_of : List Sample → ℕ
first_loud_of samples = position_or_len is_loud samples

-- a number held within -32768 to 32767
abbrev pub held : ℤ → ℤ
held z = int_max (neg_ℤ (pos 32768)) (int_min z (pos 32767))

-- the sum of two samples, each component held
abbrev pub held_sum : Sample → Sample → Sample
held_sum a b = record { i = held (a.i +ℤ b.i); q = held (a.q +ℤ b.q) }

-- the held sums of two lists of samples, place by place
unfoldable pub held_sums : List Sample → List Sample → List Sample
held_sums [] ys = []
held_sums (x ∷ xs) [] = []
held_sums (x ∷ xs) (y ∷ ys) = held_sum x y ∷ held_sums xs ys
