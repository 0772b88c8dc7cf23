use Rattle.echo_taps.proofs.Places.{echo_at, echo_is_samples, length-echo}
use Rattle.echo_taps.proofs.laws.places_of_an_echo.Goals as goal

pub returns-clause-length : goal.returns-clause-length
returns-clause-length c = length-echo

pub returns-clause-sample : goal.returns-clause-sample
returns-clause-sample c = echo_at

pub returns-clause-of_16_bits : goal.returns-clause-of_16_bits
returns-clause-of_16_bits c = echo_is_samples
