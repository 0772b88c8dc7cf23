use Rattle.std.proofs.Common.{◌≡◌, ◌*◌, map, slice_index}
use Rattle.rate_table.specs.declared.CodeRate.TheVariants.{ThreeQuarters}
use Rattle.puncture_map.specs.Kept.{kept_places}
use Rattle.puncture_map.proofs.put_twenty_fours.Given as goal

abbrev pub invariant-loop-begun : goal.invariant-loop-begun
invariant-loop-begun l = l.bits.items ≡ map (slice_index l.code) (kept_places ThreeQuarters (24 * l.begun))
