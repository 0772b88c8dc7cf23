-- What 64 bins carry, where samples can bear it (own).
use Rattle.std.specs.Prelude.{ℕ, ◌<◌}
use Rattle.fixed_complex.specs.declared.Cx.{Cx}
use Rattle.fixed_complex.specs.Pairs.{IsWithin}
use Rattle.plain_waves.specs.Bodies.{all_times}
use Rattle.plain_waves.specs.Bounds.{FitASample}

-- no component in a bin is larger than 954, and the sizes in all bins fit a sample
pub record FitABody (carried : ℕ → Cx) : Type 0 where
  pub within : (bin : ℕ) → bin < 64 → IsWithin 954 (carried bin)
  pub fits : FitASample (all_times carried)
