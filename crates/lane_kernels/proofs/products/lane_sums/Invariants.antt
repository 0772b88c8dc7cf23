use Rattle.std.proofs.Common.{◌≡◌, ℕ, ◌*◌, ◌^◌, ◌<◌, length, pos, ◌+ℤ◌}
use Rattle.fixed_complex.specs.Pairs.{IsWithin}
use Rattle.lane_kernels.specs.Kernels.{product_of}
use Rattle.lane_kernels.specs.Lanes.{total_below, total_of}
use Rattle.fixed_complex.specs.Numbers.{NumbersWithin}
use Rattle.fixed_complex.specs.Samples.{sample_at}
use Rattle.lane_kernels.proofs.products.lane_sums.Given as goal

abbrev pub invariant-loop-k : goal.invariant-loop-k
invariant-loop-k l = record {
  re_long : length l.re ≡ 4;
  im_long : length l.im ≡ 4;
  re : total_of l.re ≡ total_below (4 * l.k) (λ n. (product_of (sample_at l.a n) (sample_at l.b n)).re +ℤ pos 2147483646);
  im : total_of l.im ≡ total_below (4 * l.k) (λ n. (product_of (sample_at l.a n) (sample_at l.b n)).im +ℤ pos 2147516414);
  re_within : NumbersWithin (2 ^ 33 * l.k) l.re;
  im_within : NumbersWithin (2 ^ 33 * l.k) l.im;
  products : (n : ℕ) → n < 4 * l.k → IsWithin (2 ^ 31) (product_of (sample_at l.a n) (sample_at l.b n));
}
