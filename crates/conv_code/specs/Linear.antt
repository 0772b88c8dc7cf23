-- The exclusive or of lists (own).
use Rattle.std.specs.Prelude.{ℕ, List, map, length, slice_index}
use Rattle.std.specs.List.{range_with_len}
use Rattle.bit_lists.specs.Bits.{exclusive_or}

-- the exclusive or of two lists of one length, place by place
abbrev pub exclusive_ors : List ℕ → List ℕ → List ℕ
exclusive_ors u v =
    map (λ i. exclusive_or (slice_index u i) (slice_index v i)) (range_with_len 0 (length u))
