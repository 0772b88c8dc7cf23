-- The estimate of a channel from the long training field, by bin (own).
use Rattle.std.specs.Prelude.{ℕ, List, map}
use Rattle.std.specs.List.{range_with_len}
use Rattle.fixed_complex.specs.declared.Cx.{Cx}
use Rattle.fixed_complex.specs.PairLists.{entry}
use Rattle.fixed_complex.specs.Pairs.{multiple, plus}
use Rattle.carrier_bins.specs.Bins.{by_bin}
use Rattle.training_fields.specs.Training.{long_sign_of}

-- the estimate in a bin: the sum of what both bodies of the long training field have there, times the sign L of the
-- bin's carrier, so (0, 0) where L has no entry
abbrev pub estimate_at : List Cx → List Cx → ℕ → Cx
estimate_at first second bin =
    by_bin (λ carrier. multiple (long_sign_of carrier) (plus (entry first bin) (entry second bin))) bin

-- the 64 bins of the estimate
unfoldable pub estimate_of : List Cx → List Cx → List Cx
estimate_of first second = map (estimate_at first second) (range_with_len 0 64)
