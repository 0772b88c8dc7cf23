use Rattle.std.proofs.Common.{◌≡◌, ◌≤◌, ◌∙◌, ℕ, zero, suc, refl, sym, ap, arith}
use Rattle.std.proofs.lemmas.Bool.{false≢true}
use Rattle.ofdm_scrambler.specs.Sequence.{IsSeed, scrambled}
use Rattle.ofdm_scrambler.proofs.LastSeven.{scrambled_by_zero}
use Rattle.ofdm_scrambler.proofs.descramble_in_place.Goals as goal

-- a number up to 127 that is no seed's is 0
no_seed : (number : ℕ) → number ≤ 127 → (IsSeed number → ⊥) → number ≡ 0
no_seed zero small not_seed = refl
no_seed (suc n) small not_seed = absurd (not_seed (omega arith, small))

pub returns-in_default-clause-values : goal.returns-in_default-clause-values
returns-in_default-clause-values c =
    let is_zero = no_seed c.args.number c.requires.number (λ seed. false≢true (c.in_default.ensures.good.1 seed)) in
    sym (ap (λ number. scrambled number c.args.bits.now) is_zero ∙ scrambled_by_zero c.args.bits.now c.requires.bits)
