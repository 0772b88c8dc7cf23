-- How near received carriers are to plain forward sums (own).
use Rattle.std.specs.Prelude.{◌≡◌, ℕ, ◌*◌, ◌<◌, ◌≤◌, ◌^◌, List, length, unsigned_abs, pos, ◌-ℤ◌, ◌*ℤ◌}
use Rattle.fixed_complex.specs.declared.Cx.{Cx}
use Rattle.fixed_complex.specs.declared.Sample.{Sample}
use Rattle.fixed_complex.specs.Pairs.{IsWithin, minus, multiple}
use Rattle.butterfly64.specs.PlainSums.{plain_down}
use Rattle.fixed_complex.specs.PairLists.{entry}
use Rattle.fixed_complex.specs.Samples.{pair_at}

-- a carrier is within a bound of a plain sum over 2^20, in each component
pub record IsNearPlainSum (bound : ℕ) (carrier sum : Cx) : Type 0 where
  pub re : unsigned_abs (pos (2 ^ 20) *ℤ carrier.re -ℤ sum.re) ≤ bound * 2 ^ 20
  pub im : unsigned_abs (pos (2 ^ 20) *ℤ carrier.im -ℤ sum.im) ≤ bound * 2 ^ 20

-- 64 carriers, and each within the bound of the sum over the 64 times n of r(n) * conj T[bin*n], where r are the samples
pub record AreNearPlainSums (bound : ℕ) (carriers : List Cx) (samples : List Sample) : Type 0 where
  pub long : length carriers ≡ 64
  pub each : (bin : ℕ) → bin < 64
      → IsNearPlainSum bound (entry carriers bin) (plain_down (pair_at samples) bin)

-- 64 samples are within a bound of a wave over 2^21 times a scale, in each component
abbrev pub IsNearWave : ℕ → ℕ → (ℕ → Cx) → List Sample → Type 0
IsNearWave scale bound wave body =
    (n : ℕ) → n < 64
    → IsWithin (2 ^ 21 * (scale * bound))
    (minus (multiple (pos (2 ^ 21 * scale)) (pair_at body n)) (wave n))
