use Rattle.std.proofs.Common.{map, pos}
use Rattle.fixed_complex.specs.Samples.{sample_at}
use Rattle.lane_kernels.proofs.Parts.{are_squares, four_powers, powers_within, samples_of}
use Rattle.lane_kernels.proofs.powers.powers.Goals as goal

pub square_sums-requires : goal.square_sums-requires
square_sums-requires c = are_squares c.components-x.result c.products.result c.products.ensures c.components-x.ensures.of_16_bits

pub returns-clause-value : goal.returns-clause-value
returns-clause-value c =
    four_powers c.components-x.result c.products.result (map pos c.square_sums.result) (sample_at c.args.a.now) c.components-x.ensures.value c.products.ensures c.square_sums.ensures

pub returns-clause-within : goal.returns-clause-within
returns-clause-within c =
    powers_within (map pos c.square_sums.result) (sample_at c.args.a.now) (returns-clause-value c)
    (samples_of c.components-x.result (sample_at c.args.a.now) c.components-x.ensures.value c.components-x.ensures.of_16_bits)
