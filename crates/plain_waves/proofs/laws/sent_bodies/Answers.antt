use Rattle.plain_waves.proofs.Sent.{all_bounded, all_near}
use Rattle.plain_waves.proofs.laws.sent_bodies.Goals as goal

pub returns : goal.returns
returns c = record { near = all_near; within = all_bounded }
