use Rattle.echo_channels.proofs.Sizes.{body_is_small}
use Rattle.echo_channels.proofs.laws.size_of_an_echoed_body.Goals as goal

pub returns : goal.returns
returns c = body_is_small
