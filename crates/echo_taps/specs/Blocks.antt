-- Sums of an echo, sixteen places at once (own).
use Rattle.std.specs.Prelude.{ℕ, ◌+◌, ◌*◌, ◌^◌, ◌<◌, ◌≡◌, List, [], ◌∷◌, ◌++◌, map, ℤ}
use Rattle.std.specs.List.{range_with_len}
use Rattle.fixed_complex.specs.Samples.{pair_at}
use Rattle.fixed_complex.specs.declared.Cx.{Cx}
use Rattle.fixed_complex.specs.declared.Sample.{Sample}
use Rattle.fixed_complex.specs.Laws.{sum_below}
use Rattle.fixed_complex.specs.Numbers.{NumbersWithin, number_at}
use Rattle.fixed_complex.specs.PairLists.{entry}
use Rattle.fixed_complex.specs.Pairs.{IsWithin, times}
use Rattle.fixed_complex.specs.Rounding.{half_up}
use Rattle.lane_kernels.specs.Kernels.{held}
use Rattle.lane_kernels.specs.Lanes.{four}
use Rattle.echo_taps.specs.declared.lanes.Block.{Block}
use Rattle.echo_taps.specs.declared.lanes.Four.{Four}
use Rattle.echo_taps.specs.Echoes.{earlier, gathered, held_sample}

-- two numbers in turn, four times each
abbrev pub in_turn : ℤ → ℤ → List ℤ
in_turn a b = a ∷ b ∷ a ∷ b ∷ a ∷ b ∷ a ∷ b ∷ []

-- four pairs as the lanes hold them
abbrev pub parts_of : (ℕ → Cx) → Four
parts_of f = record { re = four (λ n. (f n).re); im = four (λ n. (f n).im) }

-- no component of four pairs is larger than a bound in size
pub record IsFourWithin (bound : ℕ) (sums : Four) : Type 0 where
  pub re : NumbersWithin bound sums.re
  pub im : NumbersWithin bound sums.im

-- what comes together at a place by the least so many delays
abbrev pub gathered_by : ℕ → List Cx → (ℕ → Cx) → ℕ → Cx
gathered_by count taps pairs place = sum_below count (λ late. times (entry taps late) (earlier pairs place late))

-- four sums are what comes together by the least so many delays, from a place on
pub record AreSums (count : ℕ) (taps : List Cx) (samples : List Sample) (place : ℕ) (sums : Four) : Type 0 where
  pub value : sums ≡ parts_of (λ n. gathered_by count taps (pair_at samples) (place + n))
  pub within : (n : ℕ) → n < 4
      → IsWithin (count * 2 ^ 26) (gathered_by count taps (pair_at samples) (place + n))

-- sixteen sums are what comes together so
pub record AreBlockSums (count : ℕ) (taps : List Cx) (samples : List Sample) (place : ℕ) (block : Block) : Type 0 where
  pub first : AreSums count taps samples place block.first
  pub second : AreSums count taps samples (place + 4) block.second
  pub third : AreSums count taps samples (place + 8) block.third
  pub fourth : AreSums count taps samples (place + 12) block.fourth

-- a number over 1024, rounded half up and held
abbrev pub held_part : ℤ → ℤ
held_part z = held (half_up 10 z)

-- the components of four held samples in the order of memory
abbrev pub held_parts : Four → List ℤ
held_parts sums =
    held_part (number_at sums.re 0) ∷ held_part (number_at sums.im 0) ∷ held_part (number_at sums.re 1)
    ∷ held_part (number_at sums.im 1) ∷ held_part (number_at sums.re 2) ∷ held_part (number_at sums.im 2)
    ∷ held_part (number_at sums.re 3) ∷ held_part (number_at sums.im 3) ∷ []

-- the held samples of four sums, and of sixteen
abbrev pub held_four : Four → List Sample
held_four sums = four (λ n. held_sample (record { re = number_at sums.re n; im = number_at sums.im n }))

abbrev pub held_block : Block → List Sample
held_block block = held_four block.first ++ held_four block.second ++ held_four block.third ++ held_four block.fourth

-- the samples of an echo before a place
abbrev pub echo_below : List Cx → List Sample → ℕ → List Sample
echo_below taps samples place =
    map (λ place. held_sample (gathered taps (pair_at samples) place)) (range_with_len 0 place)
