use Rattle.std.proofs.Common.{◌≡◌, ◌*◌, ◌^◌}
use Rattle.fixed_complex.specs.Pairs.{IsWithin}
use Rattle.lane_kernels.specs.Kernels.{product_of}
use Rattle.lane_kernels.specs.Lanes.{total_below}
use Rattle.fixed_complex.specs.Samples.{sample_at}
use Rattle.lane_kernels.proofs.products.dot.Given as goal

abbrev pub invariant-loop-n : goal.invariant-loop-n
invariant-loop-n l = record {
  re : l.dot.re ≡ total_below l.n (λ n. (product_of (sample_at l.a n) (sample_at l.b n)).re);
  im : l.dot.im ≡ total_below l.n (λ n. (product_of (sample_at l.a n) (sample_at l.b n)).im);
  within : IsWithin (2 ^ 31 * l.n) l.dot;
}
