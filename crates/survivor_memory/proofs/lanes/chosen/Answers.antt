use Rattle.std.proofs.Common.{ℕ, eqb, replicate, refl, ◌∙◌}
use Rattle.std.proofs.lemmas.Simd.{get_or-replicate}
use Rattle.survivor_memory.proofs.ByLanes.{chosen_lane}
use Rattle.survivor_memory.proofs.lanes.chosen.Goals as goal

pub returns : goal.returns
returns c = λ s h.
    chosen_lane eqb c.args.bits (replicate 64 0) (replicate 64 c.args.zero) (replicate 64 c.args.one) s c.fits-bits.0 refl refl refl h
    ∙ rw (get_or-replicate {A = ℕ} 64 s 0 0 h, get_or-replicate 64 s c.args.zero 0 h, get_or-replicate 64 s c.args.one 0 h)
