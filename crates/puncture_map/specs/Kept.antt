-- Puncturing (IEEE Std 802.11-2012, 18.3.5.6): which places of the code are kept. Periods are
-- counted from the first bit of the field, and run through it without a restart.
use Rattle.std.specs.Prelude.{ℕ, ◌+◌, ◌*◌, ◌%◌, ◌==◌, ◌||◌, Bool, true, List, length, map, filter, nat_lt, slice_index}
use Rattle.std.specs.List.{range_with_len}
use Rattle.conv_code.specs.Code.{code_of}
use Rattle.rate_table.specs.declared.CodeRate.{CodeRate}
use Rattle.rate_table.specs.declared.CodeRate.TheVariants.{Half, TwoThirds, ThreeQuarters}
use Rattle.rate_table.specs.Symbols.{ceiling}

-- whether a place of the code is kept: all at 1/2; A1 B1 A2 of every four places at 2/3; A1 B1 A2
-- B3 of every six at 3/4
abbrev pub is_kept : CodeRate → ℕ → Bool
is_kept Half place = true
is_kept TwoThirds place = nat_lt (place % 4) 3
is_kept ThreeQuarters place = nat_lt (place % 6) 3 || (place % 6 == 5)

-- the kept places below a number, in order
abbrev pub kept_places : CodeRate → ℕ → List ℕ
kept_places rate below = filter (is_kept rate) (range_with_len 0 below)

-- the rank of a place: how many kept places stand before it
abbrev pub rank : CodeRate → ℕ → ℕ
rank rate place = length (kept_places rate place)

-- how many places of the first so many steps are kept
abbrev pub kept_count : CodeRate → ℕ → ℕ
kept_count rate steps = rank rate (2 * steps)

-- the kept list: the bits of a code at its kept places, in order
abbrev pub kept_list : CodeRate → List ℕ → List ℕ
kept_list rate code = map (slice_index code) (kept_places rate (length code))

-- the kept code of a list of bits: the kept list of its code
abbrev pub kept_code : CodeRate → List ℕ → List ℕ
kept_code rate u = kept_list rate (code_of u)

-- how many steps a period has
abbrev pub period_of : CodeRate → ℕ
period_of Half = 1
period_of TwoThirds = 2
period_of ThreeQuarters = 3

-- the same count by periods (own): a kept bit for each step, and one more for each period that is
-- begun
abbrev pub count_by_periods : CodeRate → ℕ → ℕ
count_by_periods rate steps = steps + ceiling steps (period_of rate)
