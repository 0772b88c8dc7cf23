use Rattle.constellations.proofs.Gray.{computed_bit-gray}
use Rattle.constellations.proofs.gray_bit.Goals as goal

pub returns-clause-gray : goal.returns-clause-gray
returns-clause-gray c = computed_bit-gray c.args.place c.args.bit c.requires.place c.requires.bit
