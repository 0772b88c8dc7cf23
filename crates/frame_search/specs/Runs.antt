-- The run of quiet samples before a place (own).
use Rattle.std.specs.Prelude.{ℕ, zero, suc, ◌+◌, List, min, if◌then◌else◌}
use Rattle.fixed_complex.specs.declared.Sample.{Sample}
use Rattle.fixed_complex.specs.Samples.{sample_at}
use Rattle.lane_kernels.specs.Kernels.{is_loud}

-- how many quiet samples stand in a row right before a place, at most 16; places before the capture count as quiet
unfoldable pub quiet_before : List Sample → ℕ → ℕ
quiet_before capture zero = 16
quiet_before capture (suc place) =
    if is_loud (sample_at capture place) then 0 else min 16 (quiet_before capture place + 1)
