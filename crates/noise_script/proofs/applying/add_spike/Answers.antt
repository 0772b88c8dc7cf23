use Rattle.std.proofs.Common.{◌≡◌, ◌+◌, ◌-◌, ℕ, List, [], ◌∷◌, ◌++◌, drop, take, sym, ap, ◌∙◌, arith}
use Rattle.fixed_complex.specs.declared.Sample.{Sample}
use Rattle.lane_kernels.specs.Kernels.{held_sums}
use Rattle.noise_script.proofs.Effects.{spiked_at, spiked_none}
use Rattle.noise_script.proofs.applying.add_spike.Goals as goal

pub returns-then-at-samples : goal.returns-then-at-samples
returns-then-at-samples c =
    let at : ℕ = c.args.at in
    let samples : List Sample = c.args.samples.now in
    let one : at + 1 - at ≡ 1 = omega arith in
    let sum = c.add_saturating.ensures in
    ap (λ piece. take at samples ++ (piece ++ drop (at + 1 - at) (drop at samples))) sum
    ∙ ap (λ n. take at samples ++ (held_sums (take n (drop at samples)) (c.args.spike ∷ []) ++ drop n (drop at samples))) one
    ∙ sym (spiked_at at c.args.spike samples c.if-at-samples.true)

pub returns-else-at-samples : goal.returns-else-at-samples
returns-else-at-samples c = sym (spiked_none c.args.at c.args.spike c.args.samples.now c.if-at-samples.false)
