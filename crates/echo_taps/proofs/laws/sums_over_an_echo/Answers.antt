use Rattle.echo_taps.proofs.TapSums.{echo_beside_first, echo_of_size, echo_within}
use Rattle.echo_taps.proofs.laws.sums_over_an_echo.Goals as goal

pub returns-clause-size : goal.returns-clause-size
returns-clause-size c = echo_of_size

pub returns-clause-within : goal.returns-clause-within
returns-clause-within c = echo_within

pub returns-clause-beside_first : goal.returns-clause-beside_first
returns-clause-beside_first c = echo_beside_first
