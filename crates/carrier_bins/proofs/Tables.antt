-- Facts that are tried at every place of a table.
use Rattle.std.proofs.Common.{◌≡◌, inl, inr, ℕ, zero, suc, ◌+◌, ◌-◌, ◌<◌, ◌≤◌, Bool, true, ◌&&◌, ℤ, pos, negsuc, neg_ℤ, ◌-ℤ◌, ◌≤ℤ◌, ◌<ℤ◌, refl, ap, arith}
use Rattle.std.specs.Prelude.{int_le, int_lt}
use Rattle.std.proofs.lemmas.Bool.{cases_order, agree_below, agree_below_at, and_parts}
use Rattle.std.proofs.lemmas.Int.{ints}
use Rattle.carrier_bins.specs.Carriers.{bin_of, carries_data, data_carrier_of}
use Rattle.fixed_complex.proofs.ByTable.{is_same, same_number}

-- so many data numbers from a first one on stand on the carrier that is the data number less a shift
abbrev IsRun : ℕ → ℕ → ℕ → Type 0
IsRun first shift count = agree_below (λ j. same_number (data_carrier_of (first + j)) (pos (first + j) -ℤ pos shift)) (λ _. true) count ≡ true

-- and so does each of them
pub carrier-in-run : (first shift count k : ℕ) → IsRun first shift count → first ≤ k → k < first + count → data_carrier_of k ≡ pos k -ℤ pos shift
carrier-in-run first shift count k all least most =
    let e : first + (k - first) ≡ k = omega arith in
    let below : k - first < count = omega arith in
    rw e at (is_same (data_carrier_of (first + (k - first))) (pos (first + (k - first)) -ℤ pos shift) (agree_below_at (λ j. same_number (data_carrier_of (first + j)) (pos (first + j) -ℤ pos shift)) (λ _. true) count (k - first) all below))

pub IsRun-26 : IsRun 0 26 5
unfolding data_carrier_of
IsRun-26 = refl

pub IsRun-25 : IsRun 5 25 13
unfolding data_carrier_of
IsRun-25 = refl

pub IsRun-24 : IsRun 18 24 6
unfolding data_carrier_of
IsRun-24 = refl

pub IsRun-23 : IsRun 24 23 6
unfolding data_carrier_of
IsRun-23 = refl

pub IsRun-22 : IsRun 30 22 13
unfolding data_carrier_of
IsRun-22 = refl

pub IsRun-21 : IsRun 43 21 5
unfolding data_carrier_of
IsRun-21 = refl

-- each data number's carrier is in range, and neither 0 nor a pilot
abbrev carrier_good : ℕ → Bool
carrier_good k = int_le (neg_ℤ (pos 26)) (data_carrier_of k) && (int_le (data_carrier_of k) (pos 26) && carries_data (data_carrier_of k))

carriers_good : agree_below carrier_good (λ _. true) 48 ≡ true
unfolding data_carrier_of
carriers_good = refl

pub record IsGoodCarrier (k : ℕ) : Type 0 where
  pub least : neg_ℤ (pos 26) ≤ℤ data_carrier_of k
  pub most : data_carrier_of k ≤ℤ pos 26
  pub data_here : carries_data (data_carrier_of k) ≡ true

pub carrier-good : (k : ℕ) → k < 48 → IsGoodCarrier k
carrier-good k below =
    let all = agree_below_at carrier_good (λ _. true) 48 k carriers_good below in
    let parts = and_parts (int_le (neg_ℤ (pos 26)) (data_carrier_of k)) (int_le (data_carrier_of k) (pos 26) && carries_data (data_carrier_of k)) all in
    let rest = and_parts (int_le (data_carrier_of k) (pos 26)) (carries_data (data_carrier_of k)) parts.1 in
    let low : int_le (neg_ℤ (pos 26)) (data_carrier_of k) ≡ true = parts.0 in
    let high : int_le (data_carrier_of k) (pos 26) ≡ true = rest.0 in
    record { least = grind (arith, ints); most = grind (arith, ints); data_here = rest.1 }

-- the carriers rise with the data numbers
abbrev rises_at : ℕ → Bool
rises_at k = int_lt (data_carrier_of k) (data_carrier_of (k + 1))

rising : agree_below rises_at (λ _. true) 47 ≡ true
unfolding data_carrier_of
rising = refl

carrier-lt : (j d : ℕ) → j + d < 47 → data_carrier_of j <ℤ data_carrier_of (j + d + 1)
carrier-lt j zero below =
    let e : j + zero ≡ j = omega arith in
    let up : int_lt (data_carrier_of j) (data_carrier_of (j + 1)) ≡ true = agree_below_at rises_at (λ _. true) 47 j rising (omega arith) in
    rw e (grind (arith, ints))
carrier-lt j (suc d) below =
    let before = carrier-lt j d (omega arith) in
    let e : j + suc d ≡ j + d + 1 = omega arith in
    let up : int_lt (data_carrier_of (j + d + 1)) (data_carrier_of (j + d + 1 + 1)) ≡ true = agree_below_at rises_at (λ _. true) 47 (j + d + 1) rising (omega arith) in
    rw e (grind (arith, ints))

carrier-rises : (j k : ℕ) → j < k → k < 48 → data_carrier_of j <ℤ data_carrier_of k
carrier-rises j k up below =
    let e : j + (k - j - 1) + 1 ≡ k = omega arith in
    rw e at (carrier-lt j (k - j - 1) (omega arith))

-- so no two data numbers share a carrier
pub carrier-distinct : (j k : ℕ) → j < 48 → k < 48 → data_carrier_of j ≡ data_carrier_of k → j ≡ k
carrier-distinct j k j_below k_below same =
    elim (cases_order j k) [
      | inl e ↦ e
      | inr rest ↦ elim rest [
        | inl up ↦ absurd (omega (arith, ints, carrier-rises j k up k_below))
        | inr down ↦ absurd (omega (arith, ints, carrier-rises k j down j_below))
      ]
    ]

-- the bins of the carriers from 0 on, and of those below it
bin-pos : (a : ℕ) → a ≤ 31 → bin_of (pos a) ≡ a
unfolding bin_of
bin-pos a h = omega arith

bin-negsuc : (a : ℕ) → a ≤ 31 → bin_of (negsuc a) ≡ 63 - a
unfolding bin_of
bin-negsuc a h = omega arith

pub bin-lt : (z : ℤ) → neg_ℤ (pos 32) ≤ℤ z → z ≤ℤ pos 31 → bin_of z < 64
bin-lt (pos a) low high = let h : a ≤ 31 = omega (arith, ints) in omega (arith, bin-pos a h)
bin-lt (negsuc a) low high = let h : a ≤ 31 = omega (arith, ints) in omega (arith, bin-negsuc a h)

pub bin-distinct : (y z : ℤ) → neg_ℤ (pos 32) ≤ℤ y → y ≤ℤ pos 31 → neg_ℤ (pos 32) ≤ℤ z → z ≤ℤ pos 31 → bin_of y ≡ bin_of z → y ≡ z
bin-distinct (pos a) (pos b) y_low y_high z_low z_high same =
    let p : a ≤ 31 = omega (arith, ints) in let q : b ≤ 31 = omega (arith, ints) in ap pos (omega (arith, bin-pos a p, bin-pos b q))
bin-distinct (pos a) (negsuc b) y_low y_high z_low z_high same =
    let p : a ≤ 31 = omega (arith, ints) in let q : b ≤ 31 = omega (arith, ints) in absurd (omega (arith, bin-pos a p, bin-negsuc b q))
bin-distinct (negsuc a) (pos b) y_low y_high z_low z_high same =
    let p : a ≤ 31 = omega (arith, ints) in let q : b ≤ 31 = omega (arith, ints) in absurd (omega (arith, bin-negsuc a p, bin-pos b q))
bin-distinct (negsuc a) (negsuc b) y_low y_high z_low z_high same =
    let p : a ≤ 31 = omega (arith, ints) in let q : b ≤ 31 = omega (arith, ints) in ap negsuc (omega (arith, bin-negsuc a p, bin-negsuc b q))
