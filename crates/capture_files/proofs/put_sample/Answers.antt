use Rattle.std.proofs.Common.{rules}
use Rattle.capture_files.proofs.Bytes.{sample_put}
use Rattle.capture_files.proofs.put_sample.Goals as goal

pub returns : goal.returns
returns c =
    sample_put c.args.sample.i c.args.sample.q c.args.bytes.now c.write_i16.new.buf c.write_i16-2.new.buf (search rules) (search rules) c.write_i16.ensures c.write_i16-2.ensures
