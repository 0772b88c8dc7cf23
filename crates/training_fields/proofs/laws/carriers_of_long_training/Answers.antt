use Rattle.std.proofs.Common.{◌≡◌, ℕ, ◌<◌, ◌&&◌, nat_lt, refl, arith, if◌then◌else◌}
use Rattle.std.proofs.lemmas.Bool.Decides.{nat_tests}
use Rattle.carrier_bins.specs.Signs.{sign_at}
use Rattle.carrier_bins.proofs.Signs.{signs_by_size}
use Rattle.training_fields.specs.Training.{long_signs}
use Rattle.training_fields.proofs.laws.carriers_of_long_training.Goals as goal

-- 1 for the sizes of the carriers in use
abbrev one_at : ℕ → ℕ
one_at size = if nat_lt 0 size && nat_lt size 27 then 1 else 0

none_above : (size : ℕ) → 26 < size → one_at size ≡ 0
none_above size h = grind (arith, nat_tests)

pub returns : goal.returns
unfolding sign_at
returns c = signs_by_size long_signs one_at refl none_above refl refl
