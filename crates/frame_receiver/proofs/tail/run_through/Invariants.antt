use Rattle.std.proofs.Common.{◌≡◌, ℕ, ◌+◌, ◌<◌, ◌≤◌, take, false}
use Rattle.fixed_complex.specs.Samples.{sample_at}
use Rattle.lane_kernels.specs.Kernels.{is_loud}
use Rattle.frame_receiver.specs.Tails.{run_behind}
use Rattle.frame_receiver.proofs.tail.run_through.Given as goal

abbrev pub invariant-loop-n : goal.invariant-loop-n
invariant-loop-n l = record {
  run : l.run ≡ run_behind l.quiet (take l.n l.settling);
  none : (n : ℕ) → n < l.n → run_behind l.quiet (take n l.settling) ≡ 16 → is_loud (sample_at l.settling n) ≡ false;
  most : l.run ≤ 16;
  rises : l.run ≤ l.quiet + l.n;
}
