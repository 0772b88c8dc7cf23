use Rattle.training_fields.proofs.BothFields.{preamble_near, preamble_within}
use Rattle.training_fields.proofs.laws.sent_preamble.Goals as goal

pub returns : goal.returns
returns c = record { near = preamble_near; within = preamble_within }
