use Rattle.command_answers.proofs.requests.answer_from.Goals as goal

pub returns-in-Receive-clause-ok : goal.returns-in-Receive-clause-ok
returns-in-Receive-clause-ok g c = rw c.in-Receive.is c.received.ensures.ok

pub returns-in-Receive-clause-refused : goal.returns-in-Receive-clause-refused
returns-in-Receive-clause-refused g c = rw c.in-Receive.is c.received.ensures.refused
