use Rattle.echo_taps.proofs.BlockSums.{block_samples}
use Rattle.echo_taps.proofs.lanes.held_samples.Goals as goal

pub returns : goal.returns
returns c =
    block_samples c.held_parts-a.result c.held_parts-b.result c.held_parts-c.result c.held_parts-d.result c.args.block
    c.held_parts-a.ensures c.held_parts-b.ensures c.held_parts-c.ensures c.held_parts-d.ensures
