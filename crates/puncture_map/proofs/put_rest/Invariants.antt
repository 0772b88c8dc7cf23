use Rattle.std.proofs.Common.{◌≡◌, map, slice_index}
use Rattle.puncture_map.specs.Kept.{kept_places}
use Rattle.puncture_map.proofs.put_rest.Given as goal

abbrev pub invariant-loop-at : goal.invariant-loop-at
invariant-loop-at l =
    l.initial.bits.items ≡ map (slice_index l.code) (kept_places l.rate l.place) → l.bits.items ≡ map (slice_index l.code) (kept_places l.rate l.at)
