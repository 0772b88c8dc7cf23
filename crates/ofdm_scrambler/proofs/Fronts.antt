-- The number whose sequence begins with seven bits.
use Rattle.std.proofs.Common.{◌≡◌, ℕ, zero, suc, ◌+◌, ◌*◌, ◌<◌, ◌≤◌, Bool, true, false, ◌&&◌, nat_eq, List, [], ◌∷◌, length, map, get_or, ap, sym, ◌∙◌, refl, arith, lit<}
use Rattle.std.proofs.lemmas.Bool.{agree_below_at, and_parts, eqb-true}
use Rattle.std.proofs.lemmas.List.{ext_get_or}
use Rattle.std.specs.List.{range_with_len}
use Rattle.std.specs.Int.{bit_at}
use Rattle.bit_lists.specs.Bits.{exclusive_or, AreBits}
use Rattle.ofdm_scrambler.specs.Sequence.{from_minus_seven, scrambler_sequence}

-- two lists of numbers are the same
same_list : List ℕ → List ℕ → Bool
same_list [] [] = true
same_list [] (y ∷ ys) = false
same_list (x ∷ xs) [] = false
same_list (x ∷ xs) (y ∷ ys) = nat_eq x y && same_list xs ys

are_same : (xs ys : List ℕ) → same_list xs ys ≡ true → xs ≡ ys
unfolding same_list
are_same [] [] h = refl
are_same [] (y ∷ ys) h = cc
are_same (x ∷ xs) [] h = cc
are_same (x ∷ xs) (y ∷ ys) h =
    let both = and_parts (nat_eq x y) (same_list xs ys) h in
    ap (λ z. z ∷ xs) (eqb-true x y both.0) ∙ ap (λ zs. y ∷ zs) (are_same xs ys both.1)

-- the number that seven bits z0 to z6 give: x1 to x7, each an exclusive or
abbrev pub number_of : ℕ → ℕ → ℕ → ℕ → ℕ → ℕ → ℕ → ℕ
number_of z0 z1 z2 z3 z4 z5 z6 =
    let x1 = exclusive_or z6 z2 in
    let x2 = exclusive_or z5 z1 in
    let x3 = exclusive_or z4 z0 in
    let x4 = exclusive_or z3 x1 in
    let x5 = exclusive_or z2 x2 in
    let x6 = exclusive_or z1 x3 in
    let x7 = exclusive_or z0 x4 in
    x1 + 2 * x2 + 4 * x3 + 8 * x4 + 16 * x5 + 32 * x6 + 64 * x7

abbrev pub number_of_front : List ℕ → ℕ
number_of_front front =
    number_of (get_or front 0 0) (get_or front 1 0) (get_or front 2 0) (get_or front 3 0) (get_or front 4 0) (get_or front 5 0) (get_or front 6 0)

-- the seven lowest bits of a number
abbrev seven_bits : ℕ → List ℕ
seven_bits k = map (bit_at k) (range_with_len 0 7)

-- the sequence of a number leads back to it
pub number_of_sequence : (k : ℕ) → k < 128 → number_of_front (scrambler_sequence k 7) ≡ k
unfolding from_minus_seven
number_of_sequence k lt = eqb-true _ _ (agree_below_at (λ k. nat_eq (number_of_front (scrambler_sequence k 7)) k) (λ k. true) 128 k refl lt)

begins_so : (k : ℕ) → k < 128 → scrambler_sequence (number_of_front (seven_bits k)) 7 ≡ seven_bits k
unfolding from_minus_seven same_list
begins_so k lt = are_same _ _ (agree_below_at (λ k. same_list (scrambler_sequence (number_of_front (seven_bits k)) 7) (seven_bits k)) (λ k. true) 128 k refl lt)

-- seven places
at_seven : (P : ℕ → Type 0) → P 0 → P 1 → P 2 → P 3 → P 4 → P 5 → P 6 → (i : ℕ) → i < 7 → P i
at_seven P a b c d e f g zero lt = a
at_seven P a b c d e f g (suc zero) lt = b
at_seven P a b c d e f g (suc (suc zero)) lt = c
at_seven P a b c d e f g (suc (suc (suc zero))) lt = d
at_seven P a b c d e f g (suc (suc (suc (suc zero)))) lt = e
at_seven P a b c d e f g (suc (suc (suc (suc (suc zero))))) lt = f
at_seven P a b c d e f g (suc (suc (suc (suc (suc (suc zero)))))) lt = g
at_seven P a b c d e f g (suc (suc (suc (suc (suc (suc (suc i))))))) lt = absurd (omega arith)

-- seven bits, each below 2, are those of a number below 128
front_is : (front : List ℕ) → length front ≡ 7 → ((i : ℕ) → i < 7 → get_or front i 0 < 2) → (k : ℕ) × ((k < 128) × (front ≡ seven_bits k))
front_is front long bits =
    let z = λ (i : ℕ). get_or front i 0 in
    let k = z 0 + 2 * z 1 + 4 * z 2 + 8 * z 3 + 16 * z 4 + 32 * z 5 + 64 * z 6 in
    let b0 = bits 0 (lit< tt) in
    let b1 = bits 1 (lit< tt) in
    let b2 = bits 2 (lit< tt) in
    let b3 = bits 3 (lit< tt) in
    let b4 = bits 4 (lit< tt) in
    let b5 = bits 5 (lit< tt) in
    let b6 = bits 6 (lit< tt) in (
      k,
      (
        omega arith,
        ext_get_or 0 front (seven_bits k) long
            (λ i lt. at_seven (λ i. get_or front i 0 ≡ get_or (seven_bits k) i 0) (omega arith) (omega arith) (omega arith) (omega arith) (omega arith) (omega arith) (omega arith) i (omega arith)),
      ),
    )

-- the sequence of the number begins with the front
pub begins_with : (front : List ℕ) → length front ≡ 7 → ((i : ℕ) → i < 7 → get_or front i 0 < 2) → scrambler_sequence (number_of_front front) 7 ≡ front
begins_with front long bits =
    let k = front_is front long bits in
    ap (λ f. scrambler_sequence (number_of_front f) 7) k.1.1 ∙ begins_so k.0 k.1.0 ∙ sym k.1.1

pub number_is : (front : List ℕ) (x1 x2 x3 x4 x5 x6 x7 : ℕ) → x1 ≡ exclusive_or (get_or front 6 0) (get_or front 2 0) → x2 ≡ exclusive_or (get_or front 5 0) (get_or front 1 0) → x3 ≡ exclusive_or (get_or front 4 0) (get_or front 0 0) → x4 ≡ exclusive_or (get_or front 3 0) x1 → x5 ≡ exclusive_or (get_or front 2 0) x2 → x6 ≡ exclusive_or (get_or front 1 0) x3 → x7 ≡ exclusive_or (get_or front 0 0) x4 → x1 + 2 * x2 + 4 * x3 + 8 * x4 + 16 * x5 + 32 * x6 + 64 * x7 ≡ number_of_front front
number_is front x1 x2 x3 x4 x5 x6 x7 e1 e2 e3 e4 e5 e6 e7 = omega arith

-- a front of seven bits gives a number of seven bits
number_is_small : (front : List ℕ) → number_of_front front ≤ 127
number_is_small front = omega arith

-- a front names one number
pub one_number : (m n : ℕ) → m ≤ 127 → n ≤ 127 → scrambler_sequence m 7 ≡ scrambler_sequence n 7 → m ≡ n
one_number m n small_m small_n same =
    sym (number_of_sequence m (omega arith)) ∙ ap number_of_front same ∙ number_of_sequence n (omega arith)

-- and every front of seven bits names some
pub some_number : (front : List ℕ) → AreBits front → length front ≡ 7 → (number : ℕ) × ((number ≤ 127) × (scrambler_sequence number 7 ≡ front))
some_number front bits long =
    (number_of_front front, (number_is_small front, begins_with front long (λ i lt. bits i 0 (omega arith))))
