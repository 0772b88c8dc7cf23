-- The sizes of plain sums, and of sent samples with them.
use Rattle.std.proofs.Common.{◌≡◌, ℕ, zero, suc, ◌+◌, ◌*◌, ◌<◌, ◌≤◌, List, map, sum, ap, ◌∙◌, arith, ℤ, pos, ◌-ℤ◌, ◌*ℤ◌, unsigned_abs}
use Rattle.std.specs.List.{range_with_len}
use Rattle.std.proofs.lemmas.Int.{ints}
use Rattle.std.proofs.lemmas.List.FromFn.{sum_by-map-range_with_len_more}
use Rattle.integer_laws.proofs.Order.{pos-le}
use Rattle.integer_laws.proofs.FloorDivision.{rounded_within}
use Rattle.fixed_complex.specs.declared.Cx.{Cx}
use Rattle.fixed_complex.specs.Laws.{sum_below}
use Rattle.fixed_complex.specs.Pairs.{IsOfSize, IsWithin, times}
use Rattle.fixed_complex.specs.Turns.{turn_at}
use Rattle.fixed_complex.specs.PairLists.{entry}
use Rattle.fixed_complex.proofs.PairSizes.{wider, size-plus, size-times, within-size}
use Rattle.fixed_complex.proofs.TurnLaws.{turn-size}
use Rattle.plain_waves.specs.Bodies.{plain_body, sample_of, sent_body}
use Rattle.plain_waves.specs.Bounds.{FitASample}
use Rattle.fixed_complex.specs.Samples.{IsSampleWithin}
use Rattle.plain_waves.specs.Nearness.{IsNearPlain}

-- the sizes of the first bins
abbrev total : (ℕ → ℕ) → ℕ → ℕ
total sizes k = sum (map sizes (range_with_len 0 k))

-- the size of a plain sum is at most the sum of the sizes of its carriers, turned
plain_size : (x : ℕ → Cx) (sizes : ℕ → ℕ) → ((bin : ℕ) → bin < 64 → IsOfSize (sizes bin) (x bin)) → (n k : ℕ) → k ≤ 64 → IsOfSize (total sizes k * 1048577) (sum_below k (λ c. times (x c) (turn_at (c * n))))
unfolding sum_below
plain_size x sizes each n zero all = record { size = pos-le 0 0 (omega arith) }
plain_size x sizes each n (suc k) all =
    let next : suc k ≡ k + 1 = omega arith in
    let more : total sizes (suc k) ≡ total sizes k + sizes k = ap (total sizes) next ∙ sum_by-map-range_with_len_more (λ size. size) sizes 0 k k (omega arith) in
    let before = plain_size x sizes each n k (omega arith) in
    let last = size-times (sizes k) 1048577 (x k) (turn_at (k * n)) (each k (omega arith)) (turn-size (k * n)) in
    wider (total sizes k * 1048577 + sizes k * 1048577) (total sizes (suc k) * 1048577) _ (omega (arith, more)) (size-plus (total sizes k * 1048577) (sizes k * 1048577) _ _ before last)

-- so a plain sum over carriers that fit is at most 25056 and a 32nd, times 2^21, in size
pub plain_of_size : (xs : List Cx) → FitASample xs → (n : ℕ) → IsOfSize (50112 * 1048577) (plain_body (entry xs) n)
plain_of_size xs fits n =
    wider (total fits.sizes 64 * 1048577) (50112 * 1048577) _ (omega (arith, fits.total)) (plain_size (entry xs) fits.sizes fits.each n 64 (omega arith))

-- and no part of it is larger
pub plain_within : (xs : List Cx) → FitASample xs → (n : ℕ) → IsWithin (50112 * 1048577) (plain_body (entry xs) n)
plain_within xs fits n = within-size (50112 * 1048577) _ (plain_of_size xs fits n)

-- one component of a sent sample
sent_part_within : (q w : ℤ) → unsigned_abs (pos 2097152 *ℤ q -ℤ w) ≤ 2097152 → unsigned_abs w ≤ 52546290624 → unsigned_abs q ≤ 25057
sent_part_within q w near small = omega (arith, ints)

pub sent_within : (xs : List Cx) (n : ℕ) → FitASample xs → IsNearPlain 1 (sent_body (entry xs) n) (plain_body (entry xs) n) → IsSampleWithin 25057 (sent_body (entry xs) n)
sent_within xs n fits near =
    let plain = plain_within xs fits n in
    let sent = sent_body (entry xs) n in
    let whole = plain_body (entry xs) n in
    record { i = sent_part_within sent.i whole.re near.i plain.re; q = sent_part_within sent.q whole.im near.q plain.im }

-- and of a sample of the plain waveform
pub plain_sample_within : (xs : List Cx) (n : ℕ) → FitASample xs → IsSampleWithin 25057 (sample_of 21 (plain_body (entry xs) n))
plain_sample_within xs n fits =
    let plain = plain_within xs fits n in
    let whole = plain_body (entry xs) n in
    record {
      i = rounded_within whole.re 1048576 25057 (omega arith) (omega (arith, plain.re));
      q = rounded_within whole.im 1048576 25057 (omega arith) (omega (arith, plain.im));
    }
