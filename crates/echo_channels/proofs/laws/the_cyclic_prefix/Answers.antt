use Rattle.echo_channels.proofs.Prefix.{carried_in_echo, cyclic_prefix}
use Rattle.echo_channels.proofs.laws.the_cyclic_prefix.Goals as goal

pub returns-clause-thousandths : goal.returns-clause-thousandths
returns-clause-thousandths c = cyclic_prefix

pub returns-clause-carried : goal.returns-clause-carried
returns-clause-carried c = carried_in_echo
