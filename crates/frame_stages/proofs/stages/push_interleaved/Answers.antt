use Rattle.std.proofs.lemmas.List.Elements.{All-append, All-take}
use Rattle.bit_lists.specs.Bits.{IsBit}
use Rattle.frame_stages.proofs.stages.push_interleaved.Goals as goal

pub returns-clause-bits : goal.returns-clause-bits
returns-clause-bits c = λ old.
    rw c.in_ok-extend_from_slice.ensures.items (All-append IsBit _ _ old (All-take IsBit _ _ c.interleaved_symbol-places.ensures.bits))
