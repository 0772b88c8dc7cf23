use Rattle.std.proofs.Common.{◌≡◌, take}
use Rattle.signal_field.specs.Signal.{even_parity}
use Rattle.signal_field.proofs.parity.Given as goal

abbrev pub invariant-loop-bit : goal.invariant-loop-bit
invariant-loop-bit l = l.parity ≡ even_parity (take l.bit-index l.bits)
