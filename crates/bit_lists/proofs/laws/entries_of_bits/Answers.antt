use Rattle.bit_lists.proofs.BitFacts.{IsBit-slice_index}
use Rattle.bit_lists.proofs.laws.entries_of_bits.Goals as goal

pub returns : goal.returns
returns c = IsBit-slice_index
