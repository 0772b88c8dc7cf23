-- An axis that is less than half the spacing of the levels away from a level lies above just the thresholds below it.
use Rattle.std.proofs.Common.{◌≡◌, ℕ, ◌+◌, ◌<◌, List, [], ◌∷◌, length, ℤ, pos, negsuc, ◌*ℤ◌, refl, arith}
use Rattle.std.specs.List.{count_by}
use Rattle.std.proofs.lemmas.Int.{ints}
use Rattle.bit_lists.specs.Bits.{AreBits}
use Rattle.rate_table.specs.declared.Modulation.{Modulation}
use Rattle.rate_table.specs.declared.Modulation.TheVariants.{Bpsk, Qpsk, Qam16, Qam64}
use Rattle.constellations.specs.Axes.{axis_of, axis_width, place_of}
use Rattle.constellations.specs.Decisions.{IsNearAxis, axis_decided, lies_above, thresholds_below}
use Rattle.constellations.proofs.BitCases.{one_bit, two_bits, three_bits}

-- the bits of an axis are decided where it is near
abbrev GivesBack : Modulation → List ℕ → Type 0
GivesBack modulation bits = (part : ℤ) (m : ℕ) → IsNearAxis modulation (axis_of modulation bits) part m → axis_decided modulation part (pos m) ≡ bits

bpsk_0 : (part : ℤ) (m : ℕ) → IsNearAxis Bpsk (negsuc 647) part m → thresholds_below Bpsk part (pos m) ≡ 0
unfolding thresholds_below
bpsk_0 part m near = grind (arith, ints)

bpsk_1 : (part : ℤ) (m : ℕ) → IsNearAxis Bpsk (pos 648) part m → thresholds_below Bpsk part (pos m) ≡ 1
unfolding thresholds_below
bpsk_1 part m near = grind (arith, ints)

qpsk_0 : (part : ℤ) (m : ℕ) → IsNearAxis Qpsk (negsuc 457) part m → thresholds_below Qpsk part (pos m) ≡ 0
unfolding thresholds_below
qpsk_0 part m near = grind (arith, ints)

qpsk_1 : (part : ℤ) (m : ℕ) → IsNearAxis Qpsk (pos 458) part m → thresholds_below Qpsk part (pos m) ≡ 1
unfolding thresholds_below
qpsk_1 part m near = grind (arith, ints)

qam16_0 : (part : ℤ) (m : ℕ) → IsNearAxis Qam16 (negsuc 614) part m → thresholds_below Qam16 part (pos m) ≡ 0
unfolding thresholds_below
qam16_0 part m near = grind (arith, ints)

qam16_1 : (part : ℤ) (m : ℕ) → IsNearAxis Qam16 (negsuc 204) part m → thresholds_below Qam16 part (pos m) ≡ 1
unfolding thresholds_below
qam16_1 part m near = grind (arith, ints)

qam16_2 : (part : ℤ) (m : ℕ) → IsNearAxis Qam16 (pos 205) part m → thresholds_below Qam16 part (pos m) ≡ 2
unfolding thresholds_below
qam16_2 part m near = grind (arith, ints)

qam16_3 : (part : ℤ) (m : ℕ) → IsNearAxis Qam16 (pos 615) part m → thresholds_below Qam16 part (pos m) ≡ 3
unfolding thresholds_below
qam16_3 part m near = grind (arith, ints)

-- how many of two thresholds of 64-QAM an axis lies above
abbrev of_two : ℤ → ℕ → ℤ → ℤ → ℕ
of_two part m s t = count_by (lies_above part (pos m)) (s ∷ t ∷ [])

all_seven : (part : ℤ) (m : ℕ) → thresholds_below Qam64 part (pos m) ≡ of_two part m (negsuc 599) (negsuc 399) + of_two part m (negsuc 199) (pos 0) + of_two part m (pos 200) (pos 400) + count_by (lies_above part (pos m)) (pos 600 ∷ [])
unfolding thresholds_below
all_seven part m = omega arith

qam64_0 : (part : ℤ) (m : ℕ) → IsNearAxis Qam64 (negsuc 699) part m → thresholds_below Qam64 part (pos m) ≡ 0
qam64_0 part m near =
    omega (
      arith,
      all_seven part m,
      (let first : of_two part m (negsuc 599) (negsuc 399) ≡ 0 = grind (arith, ints) in first),
      (let second : of_two part m (negsuc 199) (pos 0) ≡ 0 = grind (arith, ints) in second),
      (let third : of_two part m (pos 200) (pos 400) ≡ 0 = grind (arith, ints) in third),
      (let fourth : count_by (lies_above part (pos m)) (pos 600 ∷ []) ≡ 0 = grind (arith, ints) in fourth),
    )

qam64_1 : (part : ℤ) (m : ℕ) → IsNearAxis Qam64 (negsuc 499) part m → thresholds_below Qam64 part (pos m) ≡ 1
qam64_1 part m near =
    omega (
      arith,
      all_seven part m,
      (let first : of_two part m (negsuc 599) (negsuc 399) ≡ 1 = grind (arith, ints) in first),
      (let second : of_two part m (negsuc 199) (pos 0) ≡ 0 = grind (arith, ints) in second),
      (let third : of_two part m (pos 200) (pos 400) ≡ 0 = grind (arith, ints) in third),
      (let fourth : count_by (lies_above part (pos m)) (pos 600 ∷ []) ≡ 0 = grind (arith, ints) in fourth),
    )

qam64_2 : (part : ℤ) (m : ℕ) → IsNearAxis Qam64 (negsuc 299) part m → thresholds_below Qam64 part (pos m) ≡ 2
qam64_2 part m near =
    omega (
      arith,
      all_seven part m,
      (let first : of_two part m (negsuc 599) (negsuc 399) ≡ 2 = grind (arith, ints) in first),
      (let second : of_two part m (negsuc 199) (pos 0) ≡ 0 = grind (arith, ints) in second),
      (let third : of_two part m (pos 200) (pos 400) ≡ 0 = grind (arith, ints) in third),
      (let fourth : count_by (lies_above part (pos m)) (pos 600 ∷ []) ≡ 0 = grind (arith, ints) in fourth),
    )

qam64_3 : (part : ℤ) (m : ℕ) → IsNearAxis Qam64 (negsuc 99) part m → thresholds_below Qam64 part (pos m) ≡ 3
qam64_3 part m near =
    omega (
      arith,
      all_seven part m,
      (let first : of_two part m (negsuc 599) (negsuc 399) ≡ 2 = grind (arith, ints) in first),
      (let second : of_two part m (negsuc 199) (pos 0) ≡ 1 = grind (arith, ints) in second),
      (let third : of_two part m (pos 200) (pos 400) ≡ 0 = grind (arith, ints) in third),
      (let fourth : count_by (lies_above part (pos m)) (pos 600 ∷ []) ≡ 0 = grind (arith, ints) in fourth),
    )

qam64_4 : (part : ℤ) (m : ℕ) → IsNearAxis Qam64 (pos 100) part m → thresholds_below Qam64 part (pos m) ≡ 4
qam64_4 part m near =
    omega (
      arith,
      all_seven part m,
      (let first : of_two part m (negsuc 599) (negsuc 399) ≡ 2 = grind (arith, ints) in first),
      (let second : of_two part m (negsuc 199) (pos 0) ≡ 2 = grind (arith, ints) in second),
      (let third : of_two part m (pos 200) (pos 400) ≡ 0 = grind (arith, ints) in third),
      (let fourth : count_by (lies_above part (pos m)) (pos 600 ∷ []) ≡ 0 = grind (arith, ints) in fourth),
    )

qam64_5 : (part : ℤ) (m : ℕ) → IsNearAxis Qam64 (pos 300) part m → thresholds_below Qam64 part (pos m) ≡ 5
qam64_5 part m near =
    omega (
      arith,
      all_seven part m,
      (let first : of_two part m (negsuc 599) (negsuc 399) ≡ 2 = grind (arith, ints) in first),
      (let second : of_two part m (negsuc 199) (pos 0) ≡ 2 = grind (arith, ints) in second),
      (let third : of_two part m (pos 200) (pos 400) ≡ 1 = grind (arith, ints) in third),
      (let fourth : count_by (lies_above part (pos m)) (pos 600 ∷ []) ≡ 0 = grind (arith, ints) in fourth),
    )

qam64_6 : (part : ℤ) (m : ℕ) → IsNearAxis Qam64 (pos 500) part m → thresholds_below Qam64 part (pos m) ≡ 6
qam64_6 part m near =
    omega (
      arith,
      all_seven part m,
      (let first : of_two part m (negsuc 599) (negsuc 399) ≡ 2 = grind (arith, ints) in first),
      (let second : of_two part m (negsuc 199) (pos 0) ≡ 2 = grind (arith, ints) in second),
      (let third : of_two part m (pos 200) (pos 400) ≡ 2 = grind (arith, ints) in third),
      (let fourth : count_by (lies_above part (pos m)) (pos 600 ∷ []) ≡ 0 = grind (arith, ints) in fourth),
    )

qam64_7 : (part : ℤ) (m : ℕ) → IsNearAxis Qam64 (pos 700) part m → thresholds_below Qam64 part (pos m) ≡ 7
qam64_7 part m near =
    omega (
      arith,
      all_seven part m,
      (let first : of_two part m (negsuc 599) (negsuc 399) ≡ 2 = grind (arith, ints) in first),
      (let second : of_two part m (negsuc 199) (pos 0) ≡ 2 = grind (arith, ints) in second),
      (let third : of_two part m (pos 200) (pos 400) ≡ 2 = grind (arith, ints) in third),
      (let fourth : count_by (lies_above part (pos m)) (pos 600 ∷ []) ≡ 1 = grind (arith, ints) in fourth),
    )

pub gives_back : (modulation : Modulation) (bits : List ℕ) → AreBits bits → length bits ≡ axis_width modulation → GivesBack modulation bits
unfolding axis_of place_of
gives_back Bpsk =
    one_bit (GivesBack Bpsk)
    (λ part m near. rw (bpsk_0 part m near) refl)
    (λ part m near. rw (bpsk_1 part m near) refl)
gives_back Qpsk =
    one_bit (GivesBack Qpsk)
    (λ part m near. rw (qpsk_0 part m near) refl)
    (λ part m near. rw (qpsk_1 part m near) refl)
gives_back Qam16 =
    two_bits (GivesBack Qam16)
    (λ part m near. rw (qam16_0 part m near) refl)
    (λ part m near. rw (qam16_1 part m near) refl)
    (λ part m near. rw (qam16_2 part m near) refl)
    (λ part m near. rw (qam16_3 part m near) refl)
gives_back Qam64 =
    three_bits (GivesBack Qam64)
    (λ part m near. rw (qam64_0 part m near) refl)
    (λ part m near. rw (qam64_1 part m near) refl)
    (λ part m near. rw (qam64_2 part m near) refl)
    (λ part m near. rw (qam64_3 part m near) refl)
    (λ part m near. rw (qam64_4 part m near) refl)
    (λ part m near. rw (qam64_5 part m near) refl)
    (λ part m near. rw (qam64_6 part m near) refl)
    (λ part m near. rw (qam64_7 part m near) refl)

-- an axis that is received exactly is near
pub near_from_exact : (modulation : Modulation) (sent part : ℤ) (m : ℕ) → 0 < m → pos 1296 *ℤ part ≡ sent *ℤ pos m → IsNearAxis modulation sent part m
near_from_exact Bpsk sent part m some exact = omega (arith, ints)
near_from_exact Qpsk sent part m some exact = omega (arith, ints)
near_from_exact Qam16 sent part m some exact = omega (arith, ints)
near_from_exact Qam64 sent part m some exact = omega (arith, ints)
