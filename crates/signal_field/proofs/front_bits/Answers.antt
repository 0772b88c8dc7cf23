use Rattle.std.proofs.Common.{◌∙◌}
use Rattle.signal_field.proofs.Signal.{AreBits-front_bits_of, front_put}
use Rattle.signal_field.proofs.front_bits.Goals as goal

pub returns-clause-list : goal.returns-clause-list
returns-clause-list c = front_put c.args.header.now.rate c.args.header.now.length c.args.header.now.reserved c.from.result c.put_number.new.bits c.put_number-2.new.bits (c.from.ensures ∙ c.pattern.ensures) c.put_number.ensures c.put_number-2.ensures

pub returns-clause-bits : goal.returns-clause-bits
returns-clause-bits c = rw (returns-clause-list c) (AreBits-front_bits_of c.args.header.now.rate c.args.header.now.length c.args.header.now.reserved c.requires)
