-- A point depends on its first N_BPSC bits alone.
use Rattle.std.proofs.Common.{◌≡◌, ℕ, ◌+◌, ◌-◌, ◌*◌, ◌<◌, ◌≤◌, List, take, drop, ap, sym, subst, ◌∙◌, arith}
use Rattle.std.proofs.Math.Nat.{mul-le-mul_left}
use Rattle.std.proofs.lemmas.List.{drop-take, take-take}
use Rattle.bit_lists.proofs.ByPlace.{map-agree}
use Rattle.rate_table.specs.declared.Modulation.{Modulation}
use Rattle.rate_table.specs.declared.Rate.{Rate}
use Rattle.rate_table.specs.Table.{bits_of_modulation, row_of}
use Rattle.rate_table.proofs.ByRate.{coded_bits_by_modulation}
use Rattle.constellations.specs.Points.{point_of}
use Rattle.symbol_builder.specs.Points.{point_at, points_of}

-- the point of the d-th group of N_BPSC bits
pub group_is : (modulation : Modulation) (bits : List ℕ) (width d : ℕ) → width ≡ bits_of_modulation modulation → point_of modulation (take ((width * d + width) - width * d) (drop (width * d) bits)) ≡ point_at modulation bits d
group_is modulation bits width d e =
    let size : (width * d + width) - width * d ≡ width = omega arith in
    ap (λ n. point_of modulation (take n (drop (width * d) bits))) size
    ∙ ap (λ n. point_of modulation (take n (drop (n * d) bits))) e

-- the bits of a carrier are among those of a longer front
group_of_front : (bits : List ℕ) (w d count : ℕ) → w * d + w ≤ count → take w (drop (w * d) bits) ≡ take w (drop (w * d) (take count bits))
group_of_front bits w d count le =
    let rest = count - w * d in
    let split : count ≡ w * d + rest = omega arith in
    let inside : take w (take rest (drop (w * d) bits)) ≡ take w (drop (w * d) bits) = take-take w rest (drop (w * d) bits) (omega arith) in
    rw (split, drop-take (w * d) rest bits) (sym inside)

-- N_BPSC times d, and N_BPSC more, is at most 48 times N_BPSC
pub group_within : (w d : ℕ) → d < 48 → w * d + w ≤ 48 * w
group_within w d lt = let most : w * (d + 1) ≤ w * 48 = mul-le-mul_left w (omega arith) in omega (arith, most)

-- the points of a symbol are those of its N_CBPS bits
pub points_of_front : (modulation : Modulation) (bits : List ℕ) (rate : Rate) → (row_of rate).modulation ≡ modulation → points_of modulation bits ≡ points_of modulation (take (row_of rate).coded_bits bits)
unfolding points_of
points_of_front modulation bits rate e =
    let w = bits_of_modulation modulation in
    let count : (row_of rate).coded_bits ≡ 48 * w = coded_bits_by_modulation rate ∙ ap (λ m. 48 * bits_of_modulation m) e in
    map-agree (point_at modulation bits) (point_at modulation (take (row_of rate).coded_bits bits)) 48
    (λ d lt. ap (point_of modulation) (group_of_front bits w d (row_of rate).coded_bits (subst (λ n. w * d + w ≤ n) (sym count) (group_within w d (omega arith)))))
