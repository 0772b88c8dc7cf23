use Rattle.std.proofs.Common.{ap, ◌++◌, ◌∙◌}
use Rattle.echo_taps.specs.Blocks.{echo_below}
use Rattle.echo_taps.proofs.BlockSums.{block_more}
use Rattle.echo_taps.proofs.echoes.push_block.Goals as goal

pub returns : goal.returns
returns c =
    c.in_ok-extend_from_slice.ensures.items ∙ ap (λ l. l ++ c.held_samples.result) c.requires.before
    ∙ ap (λ l. echo_below c.args.pairs.now c.args.samples.now c.args.place ++ l) c.held_samples.ensures
    ∙ block_more c.args.pairs.now c.args.samples.now c.args.place c.block_sums-block.result c.block_sums-block.ensures
