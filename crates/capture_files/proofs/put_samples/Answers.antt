use Rattle.std.proofs.Common.{arith}
use Rattle.capture_files.proofs.Bytes.{piece_more}
use Rattle.capture_files.proofs.put_samples.Goals as goal

pub loop-k-preserved : goal.loop-k-preserved
loop-k-preserved c =
    piece_more c.args.samples.now _ c.loop-k.piece c.put_sample.new.bytes _ c.loop-k.k _ c.loop-k-test.true (omega arith) c.loop-k.invariant c.put_sample.ensures
