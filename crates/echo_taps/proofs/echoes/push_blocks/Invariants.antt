use Rattle.std.proofs.Common.{◌≡◌, ◌+◌, ◌*◌}
use Rattle.echo_taps.specs.Blocks.{echo_below}
use Rattle.echo_taps.proofs.echoes.push_blocks.Given as goal

abbrev pub invariant-loop-k : goal.invariant-loop-k
invariant-loop-k l = record {
  so_far : l.echo.items ≡ echo_below l.pairs l.samples (7 + 16 * l.k);
}
