use Rattle.capture_files.proofs.Pieces.{counted_where_ok, fed_where_ok}
use Rattle.capture_files.proofs.push_whole.Goals as goal

pub returns-clause-bytes : goal.returns-clause-bytes
returns-clause-bytes c =
    fed_where_ok c.extend_from_slice.result c.args.samples.now.items c.extend_from_slice.new.self.items _ c.args.piecer.now c.feed_all-whole.new.self c.args.bytes.now c.extend_from_slice.ensures.items c.feed_all-whole.ensures.bytes

pub returns-clause-count : goal.returns-clause-count
returns-clause-count c =
    counted_where_ok c.extend_from_slice.result c.args.samples.now c.extend_from_slice.new.self c.args.piecer.now c.feed_all-whole.new.self c.args.bytes.now (returns-clause-bytes c)
