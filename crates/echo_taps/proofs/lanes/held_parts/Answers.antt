use Rattle.std.proofs.Common.{List, ℤ, ap, ◌∙◌, arith}
use Rattle.fixed_complex.specs.Numbers.{number_at}
use Rattle.lane_kernels.specs.Kernels.{held}
use Rattle.lane_kernels.specs.Lanes.{eight}
use Rattle.echo_taps.proofs.SumLanes.{halves_fit, rounded_are, rounded_fit}
use Rattle.echo_taps.proofs.lanes.held_parts.Goals as goal

pub overflow_add-rounded : goal.overflow_add-rounded
overflow_add-rounded c = halves_fit c.args.sums.re c.args.sums.im (omega arith) (omega arith) c.requires.re c.requires.im

pub held_numbers-requires : goal.held_numbers-requires
held_numbers-requires c = rounded_fit c.args.sums _ c.requires (rounded_are c.args.sums (omega arith) (omega arith) c.requires)

pub returns : goal.returns
returns c =
    c.held_numbers.ensures
    ∙ ap (λ (s : List ℤ). eight (λ n. held (number_at s n))) (rounded_are c.args.sums (omega arith) (omega arith) c.requires)
