use Rattle.std.proofs.Common.{◌≡◌, ◌-◌, ◌^◌, ◌<◌, length, drop}
use Rattle.signal_field.specs.Headers.{number_of_bits}
use Rattle.signal_field.proofs.number.Given as goal

abbrev pub invariant-loop-k : goal.invariant-loop-k
invariant-loop-k l = record {
  value : l.number ≡ number_of_bits (drop l.k l.bits);
  below : l.number < 2 ^ (length l.bits - l.k);
}
