use Rattle.std.proofs.Common.{map, pos, ◌+ℤ◌, ◌∙◌, arith}
use Rattle.fixed_complex.specs.Samples.{sample_at}
use Rattle.lane_kernels.specs.Kernels.{product_of}
use Rattle.lane_kernels.proofs.FourLanes.{four-same, words_fit, words_are}
use Rattle.lane_kernels.proofs.Parts.{are_products, biased_within, crossed, crossed-le, crossed-raised, four_crossed, four_raised, products_within, samples_of}
use Rattle.lane_kernels.proofs.products.imaginary_parts.Goals as goal

pub pair_sums-sums-requires : goal.pair_sums-sums-requires
pair_sums-sums-requires c =
    are_products c.components-x.result c.turned.result c.products.result c.products.ensures c.components-x.ensures.of_16_bits c.turned.ensures.of_16_bits

pub overflow_add-result : goal.overflow_add-result
overflow_add-result c =
    let f = sample_at c.args.a.now in
    let g = sample_at c.args.b.now in
    let sums = four_crossed c.components-x.result c.components.result c.turned.result c.products.result (map pos c.pair_sums-sums.result) f g
    c.components-x.ensures.value c.components.ensures.value c.turned.ensures.value c.products.ensures c.pair_sums-sums.ensures in
    let more = four_raised c.components-x.result (map pos c.in_phase-more.result) f c.components-x.ensures.value c.in_phase-more.ensures in
    let first = samples_of c.components-x.result f c.components-x.ensures.value c.components-x.ensures.of_16_bits in
    let second = samples_of c.components.result g c.components.ensures.value c.components.ensures.of_16_bits in
    words_fit c.pair_sums-sums.result c.in_phase-more.result (crossed f g) (λ n. (f n).i +ℤ pos 32768) (omega arith) (omega arith) sums more
    (λ n below. crossed-le f g n (first n below) (second n below))

pub returns : goal.returns
returns c =
    let f = sample_at c.args.a.now in
    let g = sample_at c.args.b.now in
    let sums = four_crossed c.components-x.result c.components.result c.turned.result c.products.result (map pos c.pair_sums-sums.result) f g
    c.components-x.ensures.value c.components.ensures.value c.turned.ensures.value c.products.ensures c.pair_sums-sums.ensures in
    let more = four_raised c.components-x.result (map pos c.in_phase-more.result) f c.components-x.ensures.value c.in_phase-more.ensures in
    let first = samples_of c.components-x.result f c.components-x.ensures.value c.components-x.ensures.of_16_bits in
    let second = samples_of c.components.result g c.components.ensures.value c.components.ensures.of_16_bits in
    let sizes = products_within f g first second in
    let value = words_are c.pair_sums-sums.result c.in_phase-more.result (crossed f g) (λ n. (f n).i +ℤ pos 32768) (omega arith) (omega arith) sums more
    ∙ four-same (λ n. crossed f g n +ℤ ((f n).i +ℤ pos 32768)) (λ n. (product_of (f n) (g n)).im +ℤ pos 2147516414) (λ n _. crossed-raised f g n) in
    record { value = value; within = biased_within _ (λ n. (product_of (f n) (g n)).im) 2147516414 (omega arith) value (λ n below. (sizes n below).im) }
