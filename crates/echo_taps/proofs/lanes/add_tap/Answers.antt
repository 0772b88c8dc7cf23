use Rattle.std.proofs.Common.{ℕ, ◌+◌, ◌-◌, ap, refl, arith}
use Rattle.std.specs.List.{slice_range}
use Rattle.fixed_complex.specs.PairLists.{entry}
use Rattle.fixed_complex.specs.Samples.{pair_at, sample_at}
use Rattle.fixed_complex.proofs.PairLists.{everywhere_within}
use Rattle.lane_kernels.proofs.Parts.{samples_of}
use Rattle.lane_kernels.proofs.Wholes.{sample-chunk}
use Rattle.echo_taps.specs.Blocks.{gathered_by}
use Rattle.echo_taps.proofs.BlockSums.{imaginary_sums, imaginary_within, of_16_bits, one_delay_more, products_within, real_sums, real_within, sums_within}
use Rattle.echo_taps.proofs.lanes.add_tap.Goals as goal

pub products-requires-clause-x : goal.products-requires-clause-x
products-requires-clause-x c =
    of_16_bits _ (real_within c.tap_lanes-by.result.re (entry c.args.pairs.now c.args.late) c.tap_lanes-by.ensures.re (everywhere_within 1024 c.args.pairs.now c.requires.pairs c.args.late))

pub products-requires-2-clause-x : goal.products-requires-2-clause-x
products-requires-2-clause-x c =
    of_16_bits _ (imaginary_within c.tap_lanes-by.result.im (entry c.args.pairs.now c.args.late) c.tap_lanes-by.ensures.im (everywhere_within 1024 c.args.pairs.now c.requires.pairs c.args.late))

pub added-requires-clause-sums : goal.added-requires-clause-sums
added-requires-clause-sums c =
    (sums_within c.args.late c.args.pairs.now c.args.samples.now c.args.place c.args.sums (omega arith) c.requires.sums).re

pub added-requires-clause-products : goal.added-requires-clause-products
added-requires-clause-products c =
    products_within c.tap_lanes-by.result.re c.components-x.result c.products.result c.products.ensures
    (real_within c.tap_lanes-by.result.re (entry c.args.pairs.now c.args.late) c.tap_lanes-by.ensures.re (everywhere_within 1024 c.args.pairs.now c.requires.pairs c.args.late)) c.components-x.ensures.of_16_bits

pub added-requires-2-clause-sums : goal.added-requires-2-clause-sums
added-requires-2-clause-sums c =
    (sums_within c.args.late c.args.pairs.now c.args.samples.now c.args.place c.args.sums (omega arith) c.requires.sums).im

pub added-requires-2-clause-products : goal.added-requires-2-clause-products
added-requires-2-clause-products c =
    products_within c.tap_lanes-by.result.im c.components-x.result c.products-2.result c.products-2.ensures
    (imaginary_within c.tap_lanes-by.result.im (entry c.args.pairs.now c.args.late) c.tap_lanes-by.ensures.im (everywhere_within 1024 c.args.pairs.now c.requires.pairs c.args.late)) c.components-x.ensures.of_16_bits

pub returns : goal.returns
returns c =
    let samples = c.args.samples.now in
    let pairs = c.args.pairs.now in
    let late = c.args.late in
    let place = c.args.place in
    let at : ℕ = place - late in
    let tap = entry pairs late in
    let a = sample_at (slice_range samples at (at + 4)) in
    let f = λ (n : ℕ). gathered_by late pairs (pair_at samples) (place + n) in
    let before = c.requires.sums.value in
    let re = real_sums tap f a c.args.sums.re c.tap_lanes-by.result.re c.components-x.result c.products.result c.added.result (ap (λ s. s.re) before) c.tap_lanes-by.ensures.re c.components-x.ensures.value c.products.ensures c.added.ensures in
    let im = imaginary_sums tap f a c.args.sums.im c.tap_lanes-by.result.im c.components-x.result c.products-2.result c.added-2.result (ap (λ s. s.im) before) c.tap_lanes-by.ensures.im c.components-x.ensures.value c.products-2.ensures c.added-2.ensures in
    one_delay_more pairs samples late place at c.args.sums _ a (omega arith) refl (λ n below. sample-chunk samples 4 at (at + 4) n refl below)
    (samples_of c.components-x.result a c.components-x.ensures.value c.components-x.ensures.of_16_bits) (everywhere_within 1024 pairs c.requires.pairs late) c.requires.sums
    (λ i. record { re = re i; im = im i })
