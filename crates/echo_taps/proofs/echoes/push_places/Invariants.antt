use Rattle.std.proofs.Common.{◌≡◌}
use Rattle.echo_taps.specs.Blocks.{echo_below}
use Rattle.echo_taps.proofs.echoes.push_places.Given as goal

abbrev pub invariant-loop-place : goal.invariant-loop-place
invariant-loop-place l = record {
  so_far : l.echo.items ≡ echo_below l.pairs l.samples l.place;
}
