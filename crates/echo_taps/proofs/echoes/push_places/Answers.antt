use Rattle.std.proofs.Common.{◌≡◌, ap, arith}
use Rattle.echo_taps.specs.Echoes.{held_sample}
use Rattle.echo_taps.proofs.Gathering.{next_sample}
use Rattle.echo_taps.proofs.echoes.push_places.Goals as goal

pub loop-place-preserved : goal.loop-place-preserved
loop-place-preserved c = record {
  so_far = next_sample c.args.pairs.now c.args.samples.now c.loop-place.echo.items c.push_held.new.echo.items c.loop-place.place (held_sample c.sum_at.result) c.loop-place.invariant.so_far
      (ap held_sample c.sum_at.ensures.sum) c.in_ok-push_held.ensures;
}

pub returns : goal.returns
returns c =
    let all : c.loop-place.place ≡ c.args.upto = omega arith in
    rw all at c.loop-place.invariant.so_far
