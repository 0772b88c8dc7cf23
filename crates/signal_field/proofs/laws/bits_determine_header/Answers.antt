use Rattle.signal_field.proofs.Signal.{headers_alike}
use Rattle.signal_field.proofs.laws.bits_determine_header.Goals as goal

pub returns : goal.returns
returns c = headers_alike
