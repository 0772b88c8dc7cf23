use Rattle.std.proofs.Common.{◌≡◌, ℕ, ◌+◌, length, sym, ◌∙◌, refl, arith}
use Rattle.std.proofs.lemmas.Int.{ints}
use Rattle.lane_kernels.specs.Kernels.{power_of}
use Rattle.fixed_complex.specs.Samples.{sample_at}
use Rattle.lane_kernels.proofs.Totals.{total-one}
use Rattle.lane_kernels.proofs.Wholes.{energy-total}
use Rattle.lane_kernels.proofs.powers.energy.Goals as goal

pub loop-n-preserved : goal.loop-n-preserved
loop-n-preserved c =
    let powers = λ (n : ℕ). power_of (sample_at c.args.a.now n) in
    let one = total-one powers c.loop-n.n (c.loop-n.n + 1) refl in
    record { so_far = omega (arith, ints); within = omega (arith, ints) }

pub returns-clause-value : goal.returns-clause-value
returns-clause-value c =
    let whole : c.loop-n.n ≡ length c.args.a.now = omega arith in
    let total = rw whole at c.loop-n.invariant.so_far in
    total ∙ sym (energy-total c.args.a.now)
