use Rattle.std.proofs.Common.{inr, refl}
use Rattle.command_answers.proofs.decoding.costs_in_text.Goals as goal

pub returns-in-Err-BadCost-clause-bad : goal.returns-in-Err-BadCost-clause-bad
returns-in-Err-BadCost-clause-bad c = let bad = rw c.in-Err-BadCost.field-0-is at c.in-Err-BadCost.ensures.bad in inr (c.in-Err-BadCost.at, refl, bad c.in-Err-BadCost.at refl)
