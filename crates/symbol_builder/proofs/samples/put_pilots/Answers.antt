use Rattle.std.proofs.Common.{◌≡◌, ◌⊎◌, ℕ, List, set, replicate, ap, refl, ◌∙◌, arith, inl, inr, ℤ, pos, negsuc, ◌-ℤ◌, ◌*ℤ◌, ◌≤◌, unsigned_abs}
use Rattle.std.proofs.lemmas.Int.{ints}
use Rattle.fixed_complex.specs.declared.Cx.{Cx}
use Rattle.fixed_complex.specs.Pairs.{zero_pair}
use Rattle.fixed_complex.proofs.Parts.{held}
use Rattle.carrier_bins.specs.Carriers.{bin_of}
use Rattle.carrier_bins.specs.Bins.{all_bins}
use Rattle.carrier_bins.specs.Signs.{sign_at}
use Rattle.symbol_builder.specs.Carriers.{pilot_sign_of}
use Rattle.symbol_builder.proofs.Pilots.{polarity_cases, polarity_size}
use Rattle.symbol_builder.proofs.samples.put_pilots.Goals as goal

-- a pilot of a given polarity
abbrev pilot_with : ℤ → ℤ → Cx
pilot_with p carrier = record { re = pos 648 *ℤ (p *ℤ pilot_sign_of carrier); im = pos 0 }

-- a pilot, and its negative, as the code computes them
abbrev positive : ℤ → Cx
positive p = record { re = held (pos 648 *ℤ held p); im = pos 0 }

abbrev negative : ℤ → Cx
negative p = record { re = held (pos 0 -ℤ held (pos 648 *ℤ held p)); im = pos 0 }

pub overflow_mul-pilot : goal.overflow_mul-pilot
overflow_mul-pilot c =
    let small : unsigned_abs c.polarity-pilot.result ≤ 1 = rw c.polarity-pilot.ensures (polarity_size c.args.n) in
    omega (arith, ints)

-- their bins
bin-below_21 : bin_of (negsuc 20) ≡ 43
unfolding bin_of
bin-below_21 = refl

bin-below_7 : bin_of (negsuc 6) ≡ 57
unfolding bin_of
bin-below_7 = refl

bin-above_7 : bin_of (pos 7) ≡ 7
unfolding bin_of
bin-above_7 = refl

bin-above_21 : bin_of (pos 21) ≡ 21
unfolding bin_of
bin-above_21 = refl

-- the list with the four pilots
four : ℤ → ℕ → ℕ → ℕ → ℕ → List Cx
four p a b c d = set (set (set (set (replicate 64 zero_pair) a (positive p)) b (positive p)) c (positive p)) d (negative p)

four_at : (p : ℤ) (a b c d : ℕ) → a ≡ 43 → b ≡ 57 → c ≡ 7 → d ≡ 21 → four p a b c d ≡ four p 43 57 7 21
four_at p a b c d e f g h = ap (λ n. four p n b c d) e ∙ ap (λ n. four p 43 n c d) f ∙ ap (λ n. four p 43 57 n d) g ∙ ap (four p 43 57 7) h

four_are : (p : ℤ) → (p ≡ pos 1) ⊎ (p ≡ negsuc 0) → four p 43 57 7 21 ≡ all_bins (pilot_with p)
unfolding four sign_at
four_are p cases = elim cases [ inl e ↦ rw e refl | inr e ↦ rw e refl ]

pub returns : goal.returns
unfolding four
returns c =
    let p = c.polarity-pilot.result in
    let cases : (p ≡ pos 1) ⊎ (p ≡ negsuc 0) = rw c.polarity-pilot.ensures (polarity_cases c.args.n) in
    four_at p c.bin.result c.bin-2.result c.bin-3.result c.bin-4.result (c.bin.ensures.bin ∙ bin-below_21) (c.bin-2.ensures.bin ∙ bin-below_7) (c.bin-3.ensures.bin ∙ bin-above_7) (c.bin-4.ensures.bin ∙ bin-above_21)
    ∙ four_are p cases
    ∙ ap (λ q. all_bins (pilot_with q)) c.polarity-pilot.ensures
