-- The code as a list.
use Rattle.std.proofs.Common.{◌≡◌, ℕ, zero, suc, ◌+◌, ◌*◌, ◌<◌, List, [], ◌∷◌, ◌++◌, length, set, slice_index, take, refl, sym, ◌∙◌, append_assoc, arith, add-zero}
use Rattle.std.specs.List.{flat_map, range_with_len}
use Rattle.std.proofs.lemmas.List.{length-set, take_more_set}
use Rattle.std.proofs.lemmas.List.Concat.{flat_map-append}
use Rattle.std.proofs.lemmas.List.Elements.{All-nil, All-cons}
use Rattle.bit_lists.specs.Bits.{IsBit, AreBits}
use Rattle.bit_lists.proofs.ByPlace.{one_place_more}
use Rattle.conv_code.specs.Code.{parity_a, parity_b, parities, Codes, code_of}

-- the code of one more place
pub code_more : (u : List ℕ) (i : ℕ) → flat_map (parities u) (range_with_len 0 (i + 1)) ≡ flat_map (parities u) (range_with_len 0 i) ++ parity_a u i ∷ parity_b u i ∷ []
code_more u i =
    rw (one_place_more 0 i i (omega arith), flat_map-append (parities u) (range_with_len 0 i) (i ∷ []))

-- the code that is set in a list, and two places more
pub coded_more : (u code : List ℕ) (i a b : ℕ) → 2 * i + 1 < length code → a ≡ parity_a u i → b ≡ parity_b u i → take (2 * i) code ≡ flat_map (parities u) (range_with_len 0 i)
    → take (2 * (i + 1)) (set (set code (2 * i) a) (2 * i + 1) b) ≡ flat_map (parities u) (range_with_len 0 (i + 1))
coded_more u code i a b within first second coded =
    let next : 2 * (i + 1) ≡ 2 * i + 1 + 1 = omega arith in
    rw next
    (take_more_set (set code (2 * i) a) (2 * i + 1) b (omega (arith, length-set {A = ℕ}))
    ∙ rw (take_more_set code (2 * i) a (omega arith), coded, append_assoc, first, second) (sym (code_more u i)))

-- two entries for each place
length_code : (u : List ℕ) (a n : ℕ) → length (flat_map (parities u) (range_with_len a n)) ≡ 2 * n
length_code u a zero = refl
length_code u a (suc n) = omega (arith, length_code u (a + 1) n)

-- the first of them
code_at_even : (u : List ℕ) (a n i : ℕ) → i < n → slice_index (flat_map (parities u) (range_with_len a n)) (2 * i) ≡ parity_a u (a + i)
code_at_even u a zero i h = absurd (omega arith)
code_at_even u a (suc n) zero h = rw add-zero
code_at_even u a (suc n) (suc i) h =
    let two_on : 2 * suc i ≡ suc (suc (2 * i)) = omega arith in
    let one_on : a + suc i ≡ a + 1 + i = omega arith in
    rw (two_on, one_on) (code_at_even u (a + 1) n i (omega arith))

-- and the second
code_at_odd : (u : List ℕ) (a n i : ℕ) → i < n → slice_index (flat_map (parities u) (range_with_len a n)) (2 * i + 1) ≡ parity_b u (a + i)
code_at_odd u a zero i h = absurd (omega arith)
code_at_odd u a (suc n) zero h = rw add-zero
code_at_odd u a (suc n) (suc i) h =
    let two_on : 2 * suc i + 1 ≡ suc (suc (2 * i + 1)) = omega arith in
    let one_on : a + suc i ≡ a + 1 + i = omega arith in
    rw (two_on, one_on) (code_at_odd u (a + 1) n i (omega arith))

-- the code of a list codes it
pub Codes-code_of : (u : List ℕ) → Codes (code_of u) u
Codes-code_of u = record {
  twice = length_code u 0 (length u);
  a = λ i within. let same : 0 + i ≡ i = omega arith in rw same at (code_at_even u 0 (length u) i within);
  b = λ i within. let same : 0 + i ≡ i = omega arith in rw same at (code_at_odd u 0 (length u) i within);
}

-- the parities are bits
pub IsBit-parity_a : (u : List ℕ) (i : ℕ) → IsBit (parity_a u i)
unfolding parity_a
IsBit-parity_a u i = omega arith

pub IsBit-parity_b : (u : List ℕ) (i : ℕ) → IsBit (parity_b u i)
unfolding parity_b
IsBit-parity_b u i = omega arith

-- so the code is a list of bits
AreBits-code : (u : List ℕ) (a n : ℕ) → AreBits (flat_map (parities u) (range_with_len a n))
AreBits-code u a zero = All-nil IsBit
AreBits-code u a (suc n) =
    let rest = flat_map (parities u) (range_with_len (a + 1) n) in
    All-cons IsBit (parity_a u a) (parity_b u a ∷ rest) (IsBit-parity_a u a) (All-cons IsBit (parity_b u a) rest (IsBit-parity_b u a) (AreBits-code u (a + 1) n))

pub AreBits-code_of : (u : List ℕ) → AreBits (code_of u)
AreBits-code_of u = AreBits-code u 0 (length u)
