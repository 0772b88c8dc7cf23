use Rattle.std.proofs.Common.{refl, arith}
use Rattle.signal_field.specs.Signal.{bits_of_number}
use Rattle.signal_field.proofs.Signal.{number_more}
use Rattle.signal_field.proofs.put_number.Goals as goal

pub loop-k-init : goal.loop-k-init
unfolding bits_of_number
loop-k-init c = refl

pub loop-k-preserved : goal.loop-k-preserved
loop-k-preserved c = number_more c.args.number c.loop-k.k c.loop-k.bits (let h = c.loop-k.auto in omega arith) c.loop-k.invariant
