-- The sizes of the staged sums of a list.
use Rattle.std.proofs.Common.{ℕ, ◌+◌, ◌-◌, ◌*◌, ◌^◌, ◌≤◌, List, arith}
use Rattle.fixed_complex.specs.declared.Cx.{Cx}
use Rattle.butterfly64.specs.StagedSums.{up_at, down_at, up_sums, down_sums}
use Rattle.fixed_complex.specs.PairLists.{entry, PairsWithin, PairsOfSize}
use Rattle.fixed_complex.proofs.PairSizes.{wider, within-size}
use Rattle.butterfly64.proofs.StagedSizes.{grown_by, size-up_at, size-down_at, six_joins}
use Rattle.fixed_complex.proofs.PairLists.{entry-map, everywhere_of_size, of_size-within}

-- the size law
pub size-up_sums : (xs : List Cx) (a : ℕ) → a ≤ 2 ^ 31 → PairsOfSize a xs → PairsOfSize (65 * a + 256) (up_sums xs)
size-up_sums xs a h s = record {
  each = λ n lt.
      rw (entry-map (up_at 6 (entry xs)) 64 n lt)
      (wider (grown_by 6 a) _ _ (six_joins a h) (size-up_at 6 a (entry xs) (everywhere_of_size a xs s) n));
}

pub size-down_sums : (xs : List Cx) (a : ℕ) → a ≤ 2 ^ 31 → PairsOfSize a xs → PairsOfSize (65 * a + 256) (down_sums xs)
size-down_sums xs a h s = record {
  each = λ n lt.
      rw (entry-map (down_at 6 (entry xs)) 64 n lt)
      (wider (grown_by 6 a) _ _ (six_joins a h) (size-down_at 6 a (entry xs) (everywhere_of_size a xs s) n));
}

-- no component reaches 2^40
components : (ys : List Cx) → PairsOfSize (65 * 2 ^ 31 + 256) ys → PairsWithin (2 ^ 40 - 1) ys
components ys s = record { each = λ n lt. within-size (2 ^ 40 - 1) (entry ys n) (wider (65 * 2 ^ 31 + 256) (2 ^ 40 - 1) _ (omega arith) (s.each n lt)) }

pub within-up_sums : (xs : List Cx) → PairsWithin (2 ^ 30) xs → PairsWithin (2 ^ 40 - 1) (up_sums xs)
within-up_sums xs w = components _ (size-up_sums xs (2 ^ 31) (omega arith) (of_size-within xs w))

pub within-down_sums : (xs : List Cx) → PairsWithin (2 ^ 30) xs → PairsWithin (2 ^ 40 - 1) (down_sums xs)
within-down_sums xs w = components _ (size-down_sums xs (2 ^ 31) (omega arith) (of_size-within xs w))

-- words hold the sums of pairs of at most 2^24
words : (ys : List Cx) → PairsOfSize (65 * 2 ^ 24 + 256) ys → PairsWithin (2 ^ 31 - 1) ys
words ys s = record { each = λ n lt. within-size (2 ^ 31 - 1) (entry ys n) (wider (65 * 2 ^ 24 + 256) (2 ^ 31 - 1) _ (omega arith) (s.each n lt)) }

pub words-up_sums : (xs : List Cx) → PairsOfSize (2 ^ 24) xs → PairsWithin (2 ^ 31 - 1) (up_sums xs)
words-up_sums xs sizes = words _ (size-up_sums xs (2 ^ 24) (omega arith) sizes)

pub words-down_sums : (xs : List Cx) → PairsOfSize (2 ^ 24) xs → PairsWithin (2 ^ 31 - 1) (down_sums xs)
words-down_sums xs sizes = words _ (size-down_sums xs (2 ^ 24) (omega arith) sizes)
