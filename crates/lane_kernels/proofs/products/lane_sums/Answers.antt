use Rattle.std.proofs.Common.{◌≡◌, ℕ, ◌+◌, ◌*◌, ◌^◌, ◌<◌, map, pos, ◌+ℤ◌, refl, arith}
use Rattle.std.specs.List.{slice_range}
use Rattle.lane_kernels.specs.Kernels.{product_of}
use Rattle.fixed_complex.specs.Samples.{sample_at}
use Rattle.lane_kernels.proofs.FourLanes.{chunk-added, lanes-more, none_within, none_yet}
use Rattle.lane_kernels.proofs.Wholes.{products-more, sample-chunk}
use Rattle.lane_kernels.proofs.products.lane_sums.Goals as goal

pub loop-k-init : goal.loop-k-init
loop-k-init c = record {
  re_long = refl;
  im_long = refl;
  re = none_yet _;
  im = none_yet _;
  re_within = none_within 0;
  im_within = none_within 0;
  products = λ n below. absurd (omega arith);
}

pub loop-k-preserved : goal.loop-k-preserved
loop-k-preserved c =
    let a = c.args.a.now in
    let b = c.args.b.now in
    let k = c.loop-k.k in
    let i = 4 * c.loop-k.k in
    let j = 4 * c.loop-k.k + 4 in
    let product = λ (n : ℕ). product_of (sample_at a n) (sample_at b n) in
    let here = λ (n : ℕ). product_of (sample_at (slice_range a i j) n) (sample_at (slice_range b i j) n) in
    let same = λ (n : ℕ) (below : n < 4). let e = sample-chunk a 4 i j n (omega arith) below in let f = sample-chunk b 4 i j n (omega arith) below in
    let is : here n ≡ product (i + n) = rw (e, f) refl in is in
    let re_is = chunk-added c.loop-k.re c.add_numbers-re_summed.result (map pos c.real_parts.result) (λ n. (here n).re +ℤ pos 2147483646) (λ n. (product (i + n)).re +ℤ pos 2147483646) c.add_numbers-re_summed.ensures.value c.real_parts.ensures.value
    (λ n below. let e = same n below in rw e refl) in
    let im_is = chunk-added c.loop-k.im c.add_numbers-im_summed.result (map pos c.imaginary_parts.result) (λ n. (here n).im +ℤ pos 2147516414) (λ n. (product (i + n)).im +ℤ pos 2147516414) c.add_numbers-im_summed.ensures.value c.imaginary_parts.ensures.value
    (λ n below. let e = same n below in rw e refl) in
    let re_grown = c.add_numbers-re_summed.ensures.grown (2 ^ 33 * k) (2 ^ 33) c.loop-k.invariant.re_within c.real_parts.ensures.within in
    let im_grown = c.add_numbers-im_summed.ensures.grown (2 ^ 33 * k) (2 ^ 33) c.loop-k.invariant.im_within c.imaginary_parts.ensures.within in
    record {
      re_long = omega arith;
      im_long = omega arith;
      re = lanes-more (λ n. (product n).re +ℤ pos 2147483646) c.loop-k.re c.add_numbers-re_summed.result i (4 * (k + 1)) c.loop-k.invariant.re_long (omega arith) c.loop-k.invariant.re re_is;
      im = lanes-more (λ n. (product n).im +ℤ pos 2147516414) c.loop-k.im c.add_numbers-im_summed.result i (4 * (k + 1)) c.loop-k.invariant.im_long (omega arith) c.loop-k.invariant.im im_is;
      re_within = λ n. omega (arith, re_grown n);
      im_within = λ n. omega (arith, im_grown n);
      products = products-more a b i j (4 * (k + 1)) refl (omega arith) c.loop-k.invariant.products c.real_parts.ensures.products;
    }
