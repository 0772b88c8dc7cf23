use Rattle.std.proofs.Common.{ℕ, ◌*◌, ◌/◌, ◌^◌, length, ◌∙◌, arith}
use Rattle.fixed_complex.specs.Samples.{sample_at}
use Rattle.lane_kernels.specs.Kernels.{product_of}
use Rattle.lane_kernels.proofs.FourLanes.{total-le, unbiased_total}
use Rattle.lane_kernels.proofs.products.whole_chunks.Goals as goal

pub returns : goal.returns
returns c =
    let m = length c.args.a.now / 4 * 4 in
    let product = λ (n : ℕ). product_of (sample_at c.args.a.now n) (sample_at c.args.b.now n) in
    let sums = c.lane_sums-sums.ensures in
    let re_within = c.total.ensures.within (2 ^ 55) sums.re_within in
    let im_within = c.total-2.ensures.within (2 ^ 55) sums.im_within in
    let re = unbiased_total c.total.result (λ n. (product n).re) m 2147483646 (c.total.ensures.total ∙ sums.re) re_within (omega arith) (omega arith) in
    let im = unbiased_total c.total-2.result (λ n. (product n).im) m 2147516414 (c.total-2.ensures.total ∙ sums.im) im_within (omega arith) (omega arith) in
    record {
      re = re;
      im = im;
      within = record {
        re = rw re (omega (arith, total-le (λ n. (product n).re) (2 ^ 31) m (λ n below. (sums.products n below).re)));
        im = rw im (omega (arith, total-le (λ n. (product n).im) (2 ^ 31) m (λ n below. (sums.products n below).im)));
      };
    }
