-- A fact of all lists of one, two or three bits follows from each of them.
use Rattle.std.proofs.Common.{◌≡◌, ℕ, zero, suc, ◌<◌, List, [], ◌∷◌, length, arith}
use Rattle.bit_lists.specs.Bits.{AreBits}

-- what holds at 0 and at 1 holds of each bit
at_bit : (P : ℕ → Type 0) → P 0 → P 1 → (b : ℕ) → b < 2 → P b
at_bit P at_0 at_1 zero h = at_0
at_bit P at_0 at_1 (suc zero) h = at_1
at_bit P at_0 at_1 (suc (suc b)) h = absurd (omega arith)

pub one_bit : (P : List ℕ → Type 0) → P (0 ∷ []) → P (1 ∷ []) → (bits : List ℕ) → AreBits bits → length bits ≡ 1 → P bits
one_bit P p0 p1 [] h e = absurd (omega arith)
one_bit P p0 p1 (a ∷ []) h e = at_bit (λ x. P (x ∷ [])) p0 p1 a (h 0 0 (omega arith))
one_bit P p0 p1 (a ∷ b ∷ r) h e = absurd (omega arith)

pub two_bits : (P : List ℕ → Type 0) → P (0 ∷ 0 ∷ []) → P (0 ∷ 1 ∷ []) → P (1 ∷ 1 ∷ []) → P (1 ∷ 0 ∷ []) → (bits : List ℕ) → AreBits bits → length bits ≡ 2 → P bits
two_bits P p00 p01 p11 p10 [] h e = absurd (omega arith)
two_bits P p00 p01 p11 p10 (a ∷ []) h e = absurd (omega arith)
two_bits P p00 p01 p11 p10 (a ∷ b ∷ []) h e =
    at_bit (λ x. P (x ∷ b ∷ []))
    (at_bit (λ y. P (0 ∷ y ∷ [])) p00 p01 b (h 1 0 (omega arith)))
    (at_bit (λ y. P (1 ∷ y ∷ [])) p10 p11 b (h 1 0 (omega arith)))
    a (h 0 0 (omega arith))
two_bits P p00 p01 p11 p10 (a ∷ b ∷ c ∷ r) h e = absurd (omega arith)

-- in the order of the levels
pub three_bits : (P : List ℕ → Type 0) → P (0 ∷ 0 ∷ 0 ∷ []) → P (0 ∷ 0 ∷ 1 ∷ []) → P (0 ∷ 1 ∷ 1 ∷ []) → P (0 ∷ 1 ∷ 0 ∷ []) → P (1 ∷ 1 ∷ 0 ∷ []) → P (1 ∷ 1 ∷ 1 ∷ []) → P (1 ∷ 0 ∷ 1 ∷ []) → P (1 ∷ 0 ∷ 0 ∷ []) → (bits : List ℕ) → AreBits bits → length bits ≡ 3 → P bits
three_bits P p0 p1 p2 p3 p4 p5 p6 p7 [] h e = absurd (omega arith)
three_bits P p0 p1 p2 p3 p4 p5 p6 p7 (a ∷ []) h e = absurd (omega arith)
three_bits P p0 p1 p2 p3 p4 p5 p6 p7 (a ∷ b ∷ []) h e = absurd (omega arith)
three_bits P p0 p1 p2 p3 p4 p5 p6 p7 (a ∷ b ∷ c ∷ []) h e =
    let third = h 2 0 (omega arith) in
    at_bit (λ x. P (x ∷ b ∷ c ∷ []))
    (at_bit (λ y. P (0 ∷ y ∷ c ∷ []))
    (at_bit (λ z. P (0 ∷ 0 ∷ z ∷ [])) p0 p1 c third)
    (at_bit (λ z. P (0 ∷ 1 ∷ z ∷ [])) p3 p2 c third)
    b (h 1 0 (omega arith)))
    (at_bit (λ y. P (1 ∷ y ∷ c ∷ []))
    (at_bit (λ z. P (1 ∷ 0 ∷ z ∷ [])) p7 p6 c third)
    (at_bit (λ z. P (1 ∷ 1 ∷ z ∷ [])) p4 p5 c third)
    b (h 1 0 (omega arith)))
    a (h 0 0 (omega arith))
three_bits P p0 p1 p2 p3 p4 p5 p6 p7 (a ∷ b ∷ c ∷ d ∷ r) h e = absurd (omega arith)
