-- The signs of the four pilots.
use Rattle.std.proofs.Common.{◌≡◌, ℕ, zero, suc, ◌<◌, refl, ap, sym, ◌∙◌, arith, ℤ, pos, negsuc, ◌*ℤ◌, neg_ℤ}
use Rattle.integer_laws.proofs.Ring.{negated, number, ring, ◌⊗◌, ◌≗◌}
use Rattle.carrier_bins.specs.Signs.{sign_at}
use Rattle.symbol_builder.specs.Carriers.{pilot_sign_of, polarity_of}
use Rattle.pilot_turns.specs.Pilots.{pilot_carrier, sign_of_pilot}

first_signs : (k : ℕ) → k < 3 → pilot_sign_of (pilot_carrier k) ≡ pos 1
unfolding sign_at
first_signs zero lt = refl
first_signs (suc zero) lt = refl
first_signs (suc (suc zero)) lt = refl
first_signs (suc (suc (suc k))) lt = absurd (omega arith)

last_sign : pilot_sign_of (pilot_carrier 3) ≡ negsuc 0
unfolding sign_at
last_sign = refl

pub sign_first : (n k : ℕ) → k < 3 → polarity_of n ≡ sign_of_pilot n k
sign_first n k lt = law (polarity_of n) ∙ ap (λ s. polarity_of n *ℤ s) (sym (first_signs k lt))
  where
    law : (p : ℤ) → p ≡ p *ℤ pos 1
    law = ring 1 (λ p. p ≗ p ⊗ number (pos 1)) refl

pub sign_last : (n : ℕ) → neg_ℤ (polarity_of n) ≡ sign_of_pilot n 3
sign_last n = law (polarity_of n) ∙ ap (λ s. polarity_of n *ℤ s) (sym last_sign)
  where
    law : (p : ℤ) → neg_ℤ p ≡ p *ℤ negsuc 0
    law = ring 1 (λ p. negated p ≗ p ⊗ number (negsuc 0)) refl
