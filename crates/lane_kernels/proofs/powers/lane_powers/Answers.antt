use Rattle.std.proofs.Common.{ℕ, ◌+◌, ◌*◌, ◌^◌, map, pos, refl, ap, arith}
use Rattle.std.specs.List.{slice_range}
use Rattle.lane_kernels.specs.Kernels.{power_of}
use Rattle.fixed_complex.specs.Samples.{sample_at}
use Rattle.lane_kernels.proofs.FourLanes.{chunk-added, lanes-more, none_within, none_yet}
use Rattle.lane_kernels.proofs.Wholes.{sample-chunk}
use Rattle.lane_kernels.proofs.powers.lane_powers.Goals as goal

pub loop-k-init : goal.loop-k-init
loop-k-init c = record { long = refl; so_far = none_yet _; within = none_within 0 }

pub loop-k-preserved : goal.loop-k-preserved
loop-k-preserved c =
    let a = c.args.a.now in
    let i = 4 * c.loop-k.k in
    let j = 4 * c.loop-k.k + 4 in
    let power = λ (n : ℕ). power_of (sample_at a n) in
    let grown = c.add_numbers-summed.ensures.grown (2 ^ 31 * c.loop-k.k) (2 ^ 31) c.loop-k.invariant.within c.powers.ensures.within in
    let is = chunk-added c.loop-k.sums c.add_numbers-summed.result (map pos c.powers.result) (λ n. power_of (sample_at (slice_range a i j) n)) (λ n. power (i + n)) c.add_numbers-summed.ensures.value c.powers.ensures.value
    (λ n below. ap power_of (sample-chunk a 4 i j n (omega arith) below)) in
    record {
      long = omega arith;
      so_far = lanes-more power c.loop-k.sums c.add_numbers-summed.result i (4 * (c.loop-k.k + 1)) c.loop-k.invariant.long (omega arith) c.loop-k.invariant.so_far is;
      within = λ n. omega (arith, grown n);
    }
