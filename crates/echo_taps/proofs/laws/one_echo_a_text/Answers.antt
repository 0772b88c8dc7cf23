use Rattle.echo_taps.proofs.Sames.{one_pairs}
use Rattle.echo_taps.proofs.laws.one_echo_a_text.Goals as goal

pub returns : goal.returns
returns c = one_pairs
