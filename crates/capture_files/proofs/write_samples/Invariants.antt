use Rattle.std.proofs.Common.{◌≡◌, ◌≤◌}
use Rattle.std.specs.Slice.Iter.{chunks_rest, chunks_size}
use Rattle.capture_files.proofs.Pieces.{TakesUpTo}
use Rattle.capture_files.proofs.write_samples.Given as goal

abbrev pub invariant-loop-some : goal.invariant-loop-some
invariant-loop-some g l = record {
  size : chunks_size l.some-iterator ≡ 1024;
  took : TakesUpTo (g.K.Sink.taken l.initial.sink) l.samples (chunks_rest l.some-iterator) (g.K.Sink.taken l.sink);
  counted : g.K.Sink.faults l.initial.sink ≤ g.K.Sink.faults l.sink;
}
