-- Eight pairs of words in lanes, eight rows of them, and what a stage does to their places (own).
use Rattle.std.specs.Prelude.{◌≡◌, ℕ, ◌+◌, ◌-◌, ◌*◌, ◌/◌, ◌%◌, ◌^◌, ◌<◌, nat_lt, if◌then◌else◌, List, [], slice_index_or}
use Rattle.fixed_complex.specs.declared.Cx.{Cx}
use Rattle.fixed_complex.specs.Numbers.{number_at}
use Rattle.fixed_complex.specs.Pairs.{IsOfSize, IsWithin, conjugate, minus, plus, scaled_product}
use Rattle.butterfly64.specs.StagedSums.{stage_turn}
use Rattle.butterfly64.specs.declared.rows.Row.{Row}

-- the pair in a lane
abbrev pub row_lane : Row → ℕ → Cx
row_lane x l = record { re = number_at x.re l; im = number_at x.im l }

-- each of eight pairs is at most so large in size
pub record RowOfSize (bound : ℕ) (x : Row) : Type 0 where
  pub each : (l : ℕ) → l < 8 → IsOfSize bound (row_lane x l)

-- each of eight pairs is as small as a turn
pub record RowOfTurns (x : Row) : Type 0 where
  pub within : (l : ℕ) → l < 8 → IsWithin (2 ^ 20) (row_lane x l)
  pub size : (l : ℕ) → l < 8 → IsOfSize 1048577 (row_lane x l)

-- the row at a place of a list, and the pair at a place of all of them
abbrev pub row_in : List Row → ℕ → Row
row_in xs r = slice_index_or xs r (record { re = []; im = [] })

abbrev pub place_in : List Row → ℕ → Cx
place_in xs n = row_lane (row_in xs (n / 8)) (n % 8)

-- the pair at a place of two rows
abbrev pub place_of_two : Row → Row → ℕ → Cx
place_of_two a b m = if nat_lt m 8 then row_lane a m else row_lane b (m - 8)

-- each of 64 pairs is at most so large in size
pub record RowsOfSize (bound : ℕ) (xs : List Row) : Type 0 where
  pub each : (n : ℕ) → n < 64 → IsOfSize bound (place_in xs n)

-- how far apart the two pairs stand that stage k reads, and the place of the first of them for place n
abbrev pub apart : ℕ → ℕ
apart k = 2 ^ (5 - k)

abbrev pub first_read : ℕ → ℕ → ℕ
first_read k n = n + apart k * (n / apart k)

-- stage k of `up`: of 64 places the one half has the sums, the other the differences of two pairs, the second turned
pub record IsJoined (k : ℕ) (x y : ℕ → Cx) : Type 0 where
  pub sums : (n : ℕ) → n < 32 → y n
      ≡ plus (x (first_read k n)) (scaled_product (stage_turn k (n / apart k)) (x (first_read k n + apart k)))
  pub differences : (n : ℕ) → n < 32 → y (n + 32)
      ≡ minus (x (first_read k n)) (scaled_product (stage_turn k (n / apart k)) (x (first_read k n + apart k)))

-- stage t of `down`: of 64 places the one half has the sums of two pairs, the other their differences, turned back
pub record IsParted (t : ℕ) (x y : ℕ → Cx) : Type 0 where
  pub sums : (n : ℕ) → n < 32 → y n ≡ plus (x (first_read t n)) (x (first_read t n + apart t))
  pub differences : (n : ℕ) → n < 32 → y (n + 32)
      ≡ scaled_product (conjugate (stage_turn (5 - t) (n % apart t))) (minus (x (first_read t n)) (x (first_read t n + apart t)))
