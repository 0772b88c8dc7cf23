-- Bins and carriers are each other's inverse.
use Rattle.std.proofs.Common.{◌≡◌, ℕ, ◌-◌, ◌<◌, ap, eqb, refl, ◌∙◌, arith, ℤ, pos, negsuc, neg_ℤ, ◌-ℤ◌, ◌≤ℤ◌, true}
use Rattle.std.proofs.lemmas.Bool.{eqb-true, le-ltb, lt-ltb, agree_below_at}
use Rattle.std.proofs.lemmas.Int.{ints}
use Rattle.carrier_bins.specs.Carriers.{bin_of}
use Rattle.carrier_bins.specs.Bins.{carrier_in}

pub bin_back : (bin : ℕ) → bin < 64 → bin_of (carrier_in bin) ≡ bin
unfolding bin_of
bin_back bin lt = eqb-true _ _ (agree_below_at (λ bin. eqb (bin_of (carrier_in bin)) bin) (λ _. true) 64 bin refl lt)

-- the carriers from 0 on, and those below it
upper : (a : ℕ) → a < 32 → carrier_in a ≡ pos a
upper a lt = rw (lt-ltb a 32 lt) refl

lower : (a : ℕ) → a < 32 → carrier_in (63 - a) ≡ negsuc a
lower a lt = let e : pos (63 - a) -ℤ pos 64 ≡ negsuc a = omega (arith, ints) in rw (le-ltb (63 - a) 32 (omega arith)) e

pub carrier_back : (carrier : ℤ) → neg_ℤ (pos 32) ≤ℤ carrier → carrier ≤ℤ pos 31 → carrier_in (bin_of carrier) ≡ carrier
unfolding bin_of
carrier_back (pos a) least most =
    let lt : a < 32 = omega (arith, ints) in
    let bin : bin_of (pos a) ≡ a = omega arith in
    ap carrier_in bin ∙ upper a lt
carrier_back (negsuc a) least most =
    let lt : a < 32 = omega (arith, ints) in
    let bin : bin_of (negsuc a) ≡ 63 - a = omega arith in
    ap carrier_in bin ∙ lower a lt
