use Rattle.std.proofs.Common.{◌≡◌, ℕ, List, ◌+◌, ◌≤◌, ◌++◌, length}
use Rattle.std.specs.Slice.Iter.{chunks_rest, chunks_size}
use Rattle.capture_hearing.specs.Hearing.{HasHeard}
use Rattle.capture_hearing.proofs.hearing.Hearing.hear_all.Given as goal

abbrev pub invariant-loop-some : goal.invariant-loop-some
invariant-loop-some l = record {
  size : chunks_size l.some-iterator ≡ 4096;
  done : (done : List ℕ) × (l.bytes ≡ done ++ chunks_rest l.some-iterator) × (l.self.count ≡ l.initial.self.count + length done)
      × ((before : List ℕ) → HasHeard l.initial.self before → HasHeard l.self (before ++ done));
  counted : l.steps + l.initial.self.receiver.spent ≤ l.initial.steps + l.self.receiver.spent;
}
