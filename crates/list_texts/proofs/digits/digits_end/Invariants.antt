use Rattle.std.proofs.Common.{All, take}
use Rattle.hex_digits.specs.Digits.{IsDigit}
use Rattle.list_texts.proofs.digits.digits_end.Given as goal

abbrev pub invariant-loop-at : goal.invariant-loop-at
invariant-loop-at l = All IsDigit (take l.at l.word)
