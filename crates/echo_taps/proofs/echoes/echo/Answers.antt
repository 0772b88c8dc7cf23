use Rattle.echo_taps.specs.Echoes.{echo_of}
use Rattle.echo_taps.proofs.echoes.echo.Goals as goal

pub returns : goal.returns
unfolding echo_of
returns c = record { echo = c.in_ok-push_places-2.ensures }
