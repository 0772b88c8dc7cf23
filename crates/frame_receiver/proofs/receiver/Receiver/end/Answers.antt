use Rattle.frame_receiver.proofs.Answered.{all_in_noise, none_begun}
use Rattle.frame_receiver.proofs.receiver.Receiver.end.Goals as goal

pub returns-in-None-clause-all_in_noise : goal.returns-in-None-clause-all_in_noise
returns-in-None-clause-all_in_noise c = λ samples heard frames stands has. all_in_noise _ samples heard frames stands has

pub returns-in-Some-clause-all_in_noise : goal.returns-in-Some-clause-all_in_noise
returns-in-Some-clause-all_in_noise c = λ samples heard frames stands has. all_in_noise _ samples heard frames stands has

pub returns-in-Some-clause-none_in_noise : goal.returns-in-Some-clause-none_in_noise
returns-in-Some-clause-none_in_noise c = λ samples heard frames stands has.
    let before = rw c.in-Some.is at (rw (← c.self.view_is) at stands) in
    absurd (none_begun samples heard frames c.self.inside.from c.in-Some.at c.self.inside.estimate c.self.inside.trellis before.walks before.state has)
