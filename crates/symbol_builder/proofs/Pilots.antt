-- The pilots: their signs, and their sizes.
use Rattle.std.proofs.Common.{◌≡◌, ◌⊎◌, ℕ, ◌*◌, ◌<◌, ◌≤◌, Bool, true, false, leb, refl, arith, inl, inr, ℤ, pos, negsuc, ◌*ℤ◌, unsigned_abs, if◌then◌else◌}
use Rattle.std.proofs.lemmas.Bool.{leb-true, agree_below_at}
use Rattle.integer_laws.proofs.Order.{unsigned_abs-product}
use Rattle.integer_laws.proofs.Sizes.{size_of_parts}
use Rattle.fixed_complex.specs.Pairs.{IsOfSize, IsWithin}
use Rattle.carrier_bins.specs.Bins.{carrier_in}
use Rattle.carrier_bins.specs.Signs.{sign_at}
use Rattle.symbol_builder.specs.Carriers.{pilot_at, pilot_sign_of, polarity_of}

of_test : (b : Bool) → ((if b then pos 1 else negsuc 0) ≡ pos 1) ⊎ ((if b then pos 1 else negsuc 0) ≡ negsuc 0)
of_test true = inl refl
of_test false = inr refl

-- a polarity is 1 or -1
pub polarity_cases : (n : ℕ) → (polarity_of n ≡ pos 1) ⊎ (polarity_of n ≡ negsuc 0)
unfolding polarity_of
polarity_cases n = of_test _

pub polarity_size : (n : ℕ) → unsigned_abs (polarity_of n) ≤ 1
polarity_size n = elim (polarity_cases n) [ inl e ↦ rw e (omega arith) | inr e ↦ rw e (omega arith) ]

-- the sign in a bin has size 0 or 1
pub sign_size : (bin : ℕ) → bin < 64 → unsigned_abs (pilot_sign_of (carrier_in bin)) ≤ 1
unfolding sign_at
sign_size bin lt = leb-true _ _ (agree_below_at (λ bin. leb (unsigned_abs (pilot_sign_of (carrier_in bin))) 1) (λ _. true) 64 bin refl lt)

-- what a carrier carries as a pilot is at most 648 times its sign in size
part_size : (n : ℕ) (s : ℤ) → unsigned_abs (pos 648 *ℤ (polarity_of n *ℤ s)) ≤ 648 * unsigned_abs s
part_size n s =
    let signed = unsigned_abs-product (polarity_of n) s 1 (unsigned_abs s) (polarity_size n) (omega arith) in
    let whole = unsigned_abs-product (pos 648) (polarity_of n *ℤ s) 648 (1 * unsigned_abs s) (omega arith) signed in
    omega (arith, whole)

pub pilot_size : (n : ℕ) (carrier : ℤ) → IsOfSize (648 * unsigned_abs (pilot_sign_of carrier)) (pilot_at n carrier)
pilot_size n carrier =
    let size = 648 * unsigned_abs (pilot_sign_of carrier) in
    record { size = size_of_parts (pilot_at n carrier).re (pos 0) size 0 size (part_size n (pilot_sign_of carrier)) (omega arith) (omega arith) }

pub pilot_within : (n bin : ℕ) → bin < 64 → IsWithin 700 (pilot_at n (carrier_in bin))
pilot_within n bin lt = record {
  re = omega (arith, part_size n (pilot_sign_of (carrier_in bin)), sign_size bin lt);
  im = omega arith;
}
