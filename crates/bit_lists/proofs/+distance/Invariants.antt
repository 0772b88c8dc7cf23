use Rattle.std.proofs.Common.{length}
use Rattle.bit_lists.proofs.+distance.Given as goal

abbrev pub decreases-distance : goal.decreases-distance
decreases-distance l = length l.a.now
