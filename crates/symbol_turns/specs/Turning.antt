-- Symbols turned alike (own).
use Rattle.std.specs.Prelude.{ℕ, ◌+◌, ◌-◌, ◌*◌, ◌/◌, List, length, map, nat_lt, if◌then◌else◌}
use Rattle.std.specs.List.{range_with_len}
use Rattle.fixed_complex.specs.declared.Cx.{Cx}
use Rattle.fixed_complex.specs.declared.Sample.{Sample}
use Rattle.fixed_complex.specs.Pairs.{scaled_product}
use Rattle.fixed_complex.specs.Samples.{pair_of, sample_at}
use Rattle.fixed_complex.specs.Turns.{turn_at}
use Rattle.lane_kernels.specs.Kernels.{held}

-- a sample times a turn over 2^20, each component rounded half up and then held within -32768 to 32767
abbrev pub turned_sample : Cx → Sample → Sample
turned_sample turn sample =
    let pair = scaled_product turn (pair_of sample) in record { i = held pair.re; q = held pair.im }

-- the turn of symbol n: (n + 1) times so many 64ths of a circle
abbrev pub turn_of_symbol : ℕ → ℕ → Cx
turn_of_symbol step n = turn_at (step * (n + 1))

-- the sample at a place, where a frame begins at a start: as it is before the frame's symbols, which stand
-- behind 320 samples, and turned with its symbol, which has 80
abbrev pub turned_at : ℕ → ℕ → List Sample → ℕ → Sample
turned_at start step samples place =
    let sample = sample_at samples place in
    if nat_lt place (start + 320) then sample
    else turned_sample (turn_of_symbol step ((place - (start + 320)) / 80)) sample

-- the turned samples
unfoldable pub turned_samples : ℕ → ℕ → List Sample → List Sample
turned_samples start step samples =
    map (turned_at start step samples) (range_with_len 0 (length samples))
