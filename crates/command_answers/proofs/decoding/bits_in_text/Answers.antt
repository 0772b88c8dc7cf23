use Rattle.std.proofs.Common.{inr, refl}
use Rattle.command_answers.proofs.decoding.bits_in_text.Goals as goal

pub returns-in-Err-BadBit-clause-bad : goal.returns-in-Err-BadBit-clause-bad
returns-in-Err-BadBit-clause-bad c = let bad = rw c.in-Err-BadBit.field-0-is at c.in-Err-BadBit.ensures.bad in inr (c.in-Err-BadBit.at, refl, bad c.in-Err-BadBit.at refl)
