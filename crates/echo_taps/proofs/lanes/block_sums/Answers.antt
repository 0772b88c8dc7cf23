use Rattle.std.proofs.Common.{◌+◌}
use Rattle.echo_taps.proofs.BlockSums.{none_yet}
use Rattle.echo_taps.proofs.lanes.block_sums.Goals as goal

pub add_block-block-requires-clause-sums : goal.add_block-block-requires-clause-sums
add_block-block-requires-clause-sums c =
    let pairs = c.args.pairs.now in
    let samples = c.args.samples.now in
    let place = c.args.place in
    record {
      first = none_yet pairs samples place;
      second = none_yet pairs samples (place + 4);
      third = none_yet pairs samples (place + 8);
      fourth = none_yet pairs samples (place + 12);
    }
