use Rattle.carrier_equaliser.proofs.Numbers.{IsDecided}
use Rattle.carrier_equaliser.proofs.decisions.decide_numbers.Given as goal

abbrev pub invariant-loop-number : goal.invariant-loop-number
invariant-loop-number l = IsDecided l.modulation l.bins l.symbol l.number l.out
