use Rattle.std.proofs.Common.{map, pos, arith}
use Rattle.fixed_complex.specs.Samples.{sample_at}
use Rattle.lane_kernels.specs.Kernels.{product_of}
use Rattle.lane_kernels.proofs.Parts.{are_products, biased_within, four_real_parts, products_within, samples_of}
use Rattle.lane_kernels.proofs.products.real_parts.Goals as goal

pub pair_sums-requires : goal.pair_sums-requires
pair_sums-requires c =
    are_products c.components.result c.components-2.result c.products.result c.products.ensures c.components.ensures.of_16_bits c.components-2.ensures.of_16_bits

pub returns : goal.returns
returns c =
    let f = sample_at c.args.a.now in
    let g = sample_at c.args.b.now in
    let value = four_real_parts c.components.result c.components-2.result c.products.result (map pos c.pair_sums.result) f g
    c.components.ensures.value c.components-2.ensures.value c.products.ensures c.pair_sums.ensures in
    let first = samples_of c.components.result f c.components.ensures.value c.components.ensures.of_16_bits in
    let second = samples_of c.components-2.result g c.components-2.ensures.value c.components-2.ensures.of_16_bits in
    let sizes = products_within f g first second in
    record {
      value = value;
      within = biased_within (map pos c.pair_sums.result) (λ n. (product_of (f n) (g n)).re) 2147483646 (omega arith) value (λ n below. (sizes n below).re);
      products = sizes;
    }
