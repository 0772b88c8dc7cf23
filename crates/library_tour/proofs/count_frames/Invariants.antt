use Rattle.std.proofs.Common.{◌≡◌, List, ◌+◌, ◌≤◌, ◌++◌, length, take}
use Rattle.fixed_complex.specs.declared.Sample.{Sample}
use Rattle.frame_findings.specs.declared.Heard.{Heard}
use Rattle.frame_receiver.specs.Receiving.{Stands}
use Rattle.library_tour.proofs.count_frames.Given as goal

abbrev pub invariant-loop-k : goal.invariant-loop-k
invariant-loop-k l = record {
  taken : l.receiver.tail.count ≡ l.initial.receiver.tail.count + l.k;
  few : l.count ≤ l.k;
  stands : (before : List Sample) (heard : List Heard) → Stands l.initial.receiver before heard
      → (more : List Heard) × (l.count ≡ length more) × Stands l.receiver (before ++ take l.k l.samples) (heard ++ more);
}
