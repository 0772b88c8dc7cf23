use Rattle.std.proofs.Common.{◌≡◌, take}
use Rattle.signal_field.specs.Signal.{bits_of_number}
use Rattle.signal_field.proofs.put_number.Given as goal

abbrev pub invariant-loop-k : goal.invariant-loop-k
invariant-loop-k l = take l.k l.bits ≡ bits_of_number l.k l.number
