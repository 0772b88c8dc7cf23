use Rattle.carrier_equaliser.proofs.Numbers.{IsDecided}
use Rattle.pilot_turns.specs.Turned.{turned_carriers, turned_channels}
use Rattle.pilot_turns.proofs.decisions.decide_numbers.Given as goal

abbrev pub invariant-loop-number : goal.invariant-loop-number
invariant-loop-number l = IsDecided l.modulation (turned_channels l.turn l.estimate) (turned_carriers l.symbol) l.number l.out
