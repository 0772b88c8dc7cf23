use Rattle.std.proofs.Common.{rules}
use Rattle.echo_taps.proofs.BlockSums.{no_tap}
use Rattle.echo_taps.proofs.lanes.add_block.Goals as goal

pub returns-then-pairs-late-eq0-2 : goal.returns-then-pairs-late-eq0-2
returns-then-pairs-late-eq0-2 c = no_tap c.args.pairs.now c.args.samples.now c.args.late c.args.place c.args.block (search rules) (search rules) c.requires.sums
