use Rattle.echo_taps.proofs.Sizes.{pairs_are_echo}
use Rattle.echo_taps.proofs.laws.sizes_of_an_echo.Goals as goal

pub returns : goal.returns
returns c = pairs_are_echo
