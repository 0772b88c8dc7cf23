use Rattle.std.proofs.Common.{◌+◌, ◌-◌, arith}
use Rattle.soft_trellis.proofs.Digits.{high_digit, low_digit}
use Rattle.soft_trellis.proofs.characters.ValueDigitsAlphabet.value_of.Goals as goal

pub returns-in-48-to-57-clause-value : goal.returns-in-48-to-57-clause-value
returns-in-48-to-57-clause-value c = omega (arith, c.in-48-to-57, low_digit (c.args.digit - 48) (omega (arith, c.in-48-to-57)))

pub returns-in-97-to-102-clause-value : goal.returns-in-97-to-102-clause-value
returns-in-97-to-102-clause-value c = omega (arith, c.in-97-to-102, high_digit (c.args.digit - 97 + 10) (omega arith))
