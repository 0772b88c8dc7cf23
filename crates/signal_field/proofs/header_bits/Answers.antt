use Rattle.signal_field.proofs.Signal.{AreBits-header_bits_of, even_sum, parity_put}
use Rattle.signal_field.proofs.header_bits.Goals as goal

pub returns-clause-list : goal.returns-clause-list
returns-clause-list c =
    let whole = parity_put c.args.header.now.rate c.args.header.now.length c.args.header.now.reserved c.parity.result c.front_bits-front.result c.front_bits-front.ensures.list c.parity.ensures in
    rw c.copy_from_slice.ensures.after whole

pub returns-clause-bits : goal.returns-clause-bits
returns-clause-bits c = rw (returns-clause-list c) (AreBits-header_bits_of c.args.header.now.rate c.args.header.now.length c.args.header.now.reserved c.requires.reserved)

pub returns-clause-even : goal.returns-clause-even
returns-clause-even c = rw (returns-clause-list c) (even_sum c.args.header.now.rate c.args.header.now.length c.args.header.now.reserved)
