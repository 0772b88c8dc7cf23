use Rattle.echo_channels.proofs.Sizes.{channel_is_large, channel_is_small}
use Rattle.echo_channels.proofs.laws.size_of_a_channel.Goals as goal

pub returns-clause-large : goal.returns-clause-large
returns-clause-large c = channel_is_large

pub returns-clause-small : goal.returns-clause-small
returns-clause-small c = channel_is_small
