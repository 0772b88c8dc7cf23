use Rattle.frame_receiver.proofs.receiver.chosen.Goals as goal

pub returns-in-Some-Err-clause-none : goal.returns-in-Some-Err-clause-none
returns-in-Some-Err-clause-none c = λ samples tail header opens.
    let last = c.put_last.ensures samples tail in
    let same = (c.in-Some-Err.ensures.opens header).1 (rw last opens) in
    absurd (cc)
