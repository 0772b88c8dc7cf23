use Rattle.std.proofs.Common.{◌≡◌, ℕ, ◌<◌, Bool, true, false, not, ◌||◌, ◌==◌, IsTrue, refl, ◌∙◌, arith, ℤ, pos, unsigned_abs, if◌then◌else◌}
use Rattle.std.proofs.lemmas.Bool.Decides.{nat_tests}
use Rattle.std.proofs.lemmas.Int.{ints}
use Rattle.carrier_bins.specs.Signs.{sign_at}
use Rattle.carrier_bins.proofs.Signs.{signs_by_size}
use Rattle.symbol_builder.specs.Carriers.{pilot_sign_of, pilot_signs}
use Rattle.symbol_builder.proofs.laws.carriers_of_pilots.Goals as goal

-- 1 for the sizes of the pilots' carriers
abbrev one_at : ℕ → ℕ
one_at size = if size == 7 || size == 21 then 1 else 0

none_above : (size : ℕ) → 26 < size → one_at size ≡ 0
none_above size h = grind (arith, nat_tests)

signs : (carrier : ℤ) → unsigned_abs (pilot_sign_of carrier) ≡ one_at (unsigned_abs carrier)
unfolding sign_at
signs = signs_by_size pilot_signs one_at refl none_above refl refl

data_is_no_pilot : (a b c : Bool) → IsTrue (not (a || (b || c))) → ◌≡◌ {A = ℕ} (if b || c then 1 else 0) 0
data_is_no_pilot a false false h = refl
data_is_no_pilot true true c h = cc
data_is_no_pilot false true c h = cc
data_is_no_pilot true false true h = cc
data_is_no_pilot false false true h = cc

no_size : (z : ℤ) → unsigned_abs z ≡ 0 → z ≡ pos 0
no_size z h = omega (arith, ints)

pub returns-clause-signs : goal.returns-clause-signs
returns-clause-signs c = signs

pub returns-clause-apart : goal.returns-clause-apart
returns-clause-apart c = λ carrier data_here.
    let size = unsigned_abs carrier in
    no_size (pilot_sign_of carrier) (signs carrier ∙ data_is_no_pilot (size == 0) (size == 7) (size == 21) data_here)
