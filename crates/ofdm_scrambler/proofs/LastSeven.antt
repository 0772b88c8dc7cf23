-- A register of the last seven bits of the sequence.
use Rattle.std.proofs.Common.{◌≡◌, ℕ, zero, suc, ◌+◌, ◌*◌, ◌%◌, ◌<◌, List, map, length, slice_index, ◌∙◌, ap, refl, arith}
use Rattle.std.specs.List.{range_with_len}
use Rattle.std.proofs.lemmas.List.{ext_get_or}
use Rattle.std.proofs.lemmas.List.FromFn.{length-map-range_with_len, get_or-map-range_with_len}
use Rattle.bit_lists.specs.Bits.{exclusive_or, IsBit, AreBits}
use Rattle.std.specs.Int.{bit_at}
use Rattle.ofdm_scrambler.specs.Sequence.{from_minus_seven, scrambler_bit, scrambler_sequence, scrambled}

-- what holds of each value of a function holds of each element of its list
All-map-range_with_len : (f : ℕ → ℕ) (count : ℕ) → ((n : ℕ) → IsBit (f n)) → AreBits (map f (range_with_len 0 count))
All-map-range_with_len f count each =
    λ k d within. let inside : k < count = omega (arith, length-map-range_with_len f 0 count) in rw (get_or-map-range_with_len f 0 count k k d inside (omega arith)) (each k)

-- the register holds the seven bits before place n: bit j is z(n - 1 - j)
pub record HoldsBefore (number n register : ℕ) : Type 0 where
  pub one_ago : bit_at register 0 ≡ from_minus_seven number (n + 6)
  pub two_ago : bit_at register 1 ≡ from_minus_seven number (n + 5)
  pub three_ago : bit_at register 2 ≡ from_minus_seven number (n + 4)
  pub four_ago : bit_at register 3 ≡ from_minus_seven number (n + 3)
  pub five_ago : bit_at register 4 ≡ from_minus_seven number (n + 2)
  pub six_ago : bit_at register 5 ≡ from_minus_seven number (n + 1)
  pub seven_ago : bit_at register 6 ≡ from_minus_seven number n

-- the recurrence, at a place written as a sum
pub scrambler_bit_is : (number n : ℕ) → scrambler_bit number n ≡ exclusive_or (from_minus_seven number n) (from_minus_seven number (n + 3))
unfolding from_minus_seven
scrambler_bit_is number n =
    let seven : suc (suc (suc (suc (suc (suc (suc n)))))) ≡ n + 7 = omega arith in
    let three : suc (suc (suc n)) ≡ n + 3 = omega arith in
    rw (← seven, ← three)

-- before place 0 stands the number itself
pub HoldsBefore-start : (number : ℕ) → HoldsBefore number 0 number
unfolding from_minus_seven
HoldsBefore-start number = record {
  one_ago = refl;
  two_ago = refl;
  three_ago = refl;
  four_ago = refl;
  five_ago = refl;
  six_ago = refl;
  seven_ago = refl;
}

-- the bit that a register makes is the bit of its place
pub next_bit_is : (number n register bit : ℕ) → HoldsBefore number n register → bit ≡ exclusive_or (bit_at register 6) (bit_at register 3) → bit ≡ scrambler_bit number n
next_bit_is number n register bit held made = rw (scrambler_bit_is, ← held.seven_ago, ← held.four_ago) made

-- each bit of the sequence is a bit
pub IsBit-scrambler_bit : (number n : ℕ) → IsBit (scrambler_bit number n)
IsBit-scrambler_bit number n = rw scrambler_bit_is (omega arith)

-- a register that takes in the bit of its place holds the seven bits before the next place
pub HoldsBefore-more : (number n register bit next : ℕ) → HoldsBefore number n register → register < 128 → bit ≡ scrambler_bit number n → next ≡ (2 * register + bit) % 128 → HoldsBefore number (n + 1) next
HoldsBefore-more number n register bit next held seven is shifted =
    let small : bit < 2 = rw is (IsBit-scrambler_bit number n) in
    let last : n + 1 + 6 ≡ n + 7 = omega arith in
    let sixth : n + 1 + 5 ≡ n + 6 = omega arith in
    let fifth : n + 1 + 4 ≡ n + 5 = omega arith in
    let fourth : n + 1 + 3 ≡ n + 4 = omega arith in
    let third : n + 1 + 2 ≡ n + 3 = omega arith in
    let second : n + 1 + 1 ≡ n + 2 = omega arith in
    record {
      one_ago = rw (last, ← is) (omega arith);
      two_ago = rw (sixth, ← held.one_ago) (omega arith);
      three_ago = rw (fifth, ← held.two_ago) (omega arith);
      four_ago = rw (fourth, ← held.three_ago) (omega arith);
      five_ago = rw (third, ← held.four_ago) (omega arith);
      six_ago = rw (second, ← held.five_ago) (omega arith);
      seven_ago = rw (← held.six_ago) (omega arith);
    }

-- the sequence is a list of bits
pub AreBits-scrambler_sequence : (number count : ℕ) → AreBits (scrambler_sequence number count)
AreBits-scrambler_sequence number count =
    All-map-range_with_len (scrambler_bit number) count (IsBit-scrambler_bit number)

-- so is a scrambled list
pub AreBits-scrambled : (number : ℕ) (bits : List ℕ) → AreBits (scrambled number bits)
AreBits-scrambled number bits =
    All-map-range_with_len (λ n. exclusive_or (slice_index bits n) (scrambler_bit number n)) (length bits) (λ n. omega arith)

-- each place of the sequence of the number 0 is 0
sequence_of_zero : (k : ℕ) → from_minus_seven 0 k ≡ 0
unfolding from_minus_seven
sequence_of_zero zero = refl
sequence_of_zero (suc zero) = refl
sequence_of_zero (suc (suc zero)) = refl
sequence_of_zero (suc (suc (suc zero))) = refl
sequence_of_zero (suc (suc (suc (suc zero)))) = refl
sequence_of_zero (suc (suc (suc (suc (suc zero))))) = refl
sequence_of_zero (suc (suc (suc (suc (suc (suc zero)))))) = refl
sequence_of_zero (suc (suc (suc (suc (suc (suc (suc k))))))) =
    omega (arith, sequence_of_zero k, sequence_of_zero (suc (suc (suc k))))

-- so the number 0 scrambles nothing
pub scrambled_by_zero : (bits : List ℕ) → AreBits bits → scrambled 0 bits ≡ bits
scrambled_by_zero bits are_bits =
    let changed = λ (n : ℕ). exclusive_or (slice_index bits n) (scrambler_bit 0 n) in
    let long = length-map-range_with_len changed 0 (length bits) in
    ext_get_or 0 (scrambled 0 bits) bits long
    (λ n lt. let is_bit : slice_index bits n < 2 = are_bits n 0 (omega (arith, long)) in
    get_or-map-range_with_len changed 0 (length bits) n n 0 (omega (arith, long)) (omega arith) ∙ (let z = sequence_of_zero (n + 7) in omega arith))

length-scrambled : (number : ℕ) (bits : List ℕ) → length (scrambled number bits) ≡ length bits
length-scrambled number bits = length-map-range_with_len (λ n. exclusive_or (slice_index bits n) (scrambler_bit number n)) 0 (length bits)

-- a bit of a scrambled list
pub scrambled_at : (number : ℕ) (bits : List ℕ) (n : ℕ) → n < length bits → slice_index (scrambled number bits) n ≡ exclusive_or (slice_index bits n) (scrambler_bit number n)
scrambled_at number bits n lt =
    get_or-map-range_with_len (λ n. exclusive_or (slice_index bits n) (scrambler_bit number n)) 0 (length bits) n n 0 lt (omega arith)

twice_is : (a z : ℕ) → IsBit a → exclusive_or (exclusive_or a z) z ≡ a
twice_is a z bit = omega arith

-- to scramble twice with one number changes nothing
pub scrambled_twice : (number : ℕ) (bits : List ℕ) → AreBits bits → scrambled number (scrambled number bits) ≡ bits
scrambled_twice number bits are_bits =
    let long = length-scrambled number (scrambled number bits) ∙ length-scrambled number bits in
    ext_get_or 0 (scrambled number (scrambled number bits)) bits long
    (λ n lt.
    let inside : n < length bits = omega (arith, long) in
    let between : n < length (scrambled number bits) = omega (arith, length-scrambled number bits) in
    scrambled_at number (scrambled number bits) n between
    ∙ ap (λ bit. exclusive_or bit (scrambler_bit number n)) (scrambled_at number bits n inside)
    ∙ twice_is (slice_index bits n) (scrambler_bit number n) (are_bits n 0 inside))
