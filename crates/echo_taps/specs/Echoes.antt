-- The echo of samples (own).
use Rattle.std.specs.Prelude.{ℕ, ◌+◌, ◌-◌, List, length, map, nat_lt, if◌then◌else◌}
use Rattle.std.specs.List.{range_with_len}
use Rattle.fixed_complex.specs.declared.Cx.{Cx}
use Rattle.fixed_complex.specs.declared.Sample.{Sample}
use Rattle.fixed_complex.specs.Laws.{sum_below}
use Rattle.fixed_complex.specs.PairLists.{entry}
use Rattle.fixed_complex.specs.Pairs.{rounded_pair, times, zero_pair}
use Rattle.fixed_complex.specs.Samples.{pair_at}
use Rattle.lane_kernels.specs.Kernels.{held}

-- the pair so many places before a place, and (0, 0) before the first
abbrev pub earlier : (ℕ → Cx) → ℕ → ℕ → Cx
earlier pairs place late = if nat_lt place late then zero_pair else pairs (place - late)

-- what comes together at a place: the sum, over the delays, of the tap of the delay times the pair so much earlier
unfoldable pub gathered : List Cx → (ℕ → Cx) → ℕ → Cx
gathered taps pairs place = sum_below 8 (λ late. times (entry taps late) (earlier pairs place late))

-- a pair over 1024, rounded half up, each component held within -32768 to 32767
abbrev pub held_sample : Cx → Sample
held_sample sum =
    let pair = rounded_pair 10 sum in record { i = held pair.re; q = held pair.im }

-- the echo of samples: seven samples more; samples before the first and behind the last are silent
unfoldable pub echo_of : List Cx → List Sample → List Sample
echo_of taps samples =
    map (λ place. held_sample (gathered taps (pair_at samples) place))
    (range_with_len 0 (length samples + 7))
