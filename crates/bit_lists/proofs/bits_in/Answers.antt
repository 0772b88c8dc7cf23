use Rattle.std.proofs.Common.{arith}
use Rattle.bit_lists.proofs.EightBits.{left_is}
use Rattle.bit_lists.proofs.bits_in.Goals as goal

pub returns : goal.returns
returns c = left_is c.args.octet (omega arith)
