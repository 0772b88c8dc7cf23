-- What holds of each of the 64 places of a turn, shown by computing a test there.
use Rattle.std.proofs.Common.{◌≡◌, ℕ, ◌*◌, Bool, true, false, ◌&&◌, nat_eq, nat_le, ℤ, pos, negsuc, ◌+ℤ◌, ◌*ℤ◌, ◌≤ℤ◌, int_le, unsigned_abs, ap, arith}
use Rattle.std.proofs.lemmas.Bool.{and_parts, eqb-true, leb-true}
use Rattle.std.proofs.lemmas.Int.{ints}
use Rattle.fixed_complex.specs.declared.Cx.{Cx}
use Rattle.fixed_complex.specs.Pairs.{IsOfSize, IsWithin}
use Rattle.fixed_complex.proofs.Pairs.{same_parts}

-- two whole numbers are the same
abbrev pub same_number : ℤ → ℤ → Bool
same_number (pos a) (pos b) = nat_eq a b
same_number (pos a) (negsuc b) = false
same_number (negsuc a) (pos b) = false
same_number (negsuc a) (negsuc b) = nat_eq a b

pub is_same : (x y : ℤ) → same_number x y ≡ true → x ≡ y
is_same (pos a) (pos b) h = ap pos (eqb-true a b h)
is_same (pos a) (negsuc b) h = cc
is_same (negsuc a) (pos b) h = cc
is_same (negsuc a) (negsuc b) h = ap negsuc (eqb-true a b h)

-- two pairs are the same
abbrev pub same_pairs : Cx → Cx → Bool
same_pairs a b = same_number a.re b.re && same_number a.im b.im

pub are_same : (a b : Cx) → same_pairs a b ≡ true → a ≡ b
are_same a b h =
    let both = and_parts (same_number a.re b.re) (same_number a.im b.im) h in
    same_parts a b (is_same a.re b.re both.0) (is_same a.im b.im both.1)

-- a pair has components, or a size, of at most a bound
abbrev pub within_test : ℕ → Cx → Bool
within_test bound a = nat_le (unsigned_abs a.re) bound && nat_le (unsigned_abs a.im) bound

pub is_within : (bound : ℕ) (a : Cx) → within_test bound a ≡ true → IsWithin bound a
is_within bound a h =
    let both = and_parts (nat_le (unsigned_abs a.re) bound) (nat_le (unsigned_abs a.im) bound) h in
    record { re = leb-true (unsigned_abs a.re) bound both.0; im = leb-true (unsigned_abs a.im) bound both.1 }

abbrev pub size_test : ℕ → Cx → Bool
size_test bound a = int_le (a.re *ℤ a.re +ℤ a.im *ℤ a.im) (pos (bound * bound))

pub at_most : (x y : ℤ) → int_le x y ≡ true → x ≤ℤ y
at_most x y h = grind (arith, ints)

pub is_of_size : (bound : ℕ) (a : Cx) → size_test bound a ≡ true → IsOfSize bound a
is_of_size bound a h = record { size = at_most (a.re *ℤ a.re +ℤ a.im *ℤ a.im) (pos (bound * bound)) h }
