use Rattle.signal_field.proofs.Headers.{bits_say_header}
use Rattle.signal_field.proofs.laws.bits_say_header.Goals as goal

pub returns : goal.returns
returns c = bits_say_header
