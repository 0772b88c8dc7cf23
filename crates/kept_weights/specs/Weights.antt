-- Kept weights and distances (own), over the kept places of the code (IEEE Std 802.11-2012,
-- 18.3.5.6).
use Rattle.std.specs.Prelude.{ℕ, ◌==◌, List, slice_index, not}
use Rattle.std.specs.List.{count_by, range_with_len}
use Rattle.rate_table.specs.declared.CodeRate.{CodeRate}
use Rattle.rate_table.specs.declared.CodeRate.TheVariants.{Half, TwoThirds, ThreeQuarters}
use Rattle.puncture_map.specs.Kept.{kept_code}

-- the kept weight of a list: the ones of its kept code
abbrev pub kept_weight : CodeRate → List ℕ → ℕ
kept_weight rate u = count_by (λ bit. bit == 1) (kept_code rate u)

-- the distance of two lists over their first so many places: how many of them differ
unfoldable pub distance_over : ℕ → List ℕ → List ℕ → ℕ
distance_over count a b =
    count_by (λ place. not (slice_index a place == slice_index b place)) (range_with_len 0 count)

-- the least kept weight of a list that ends in six zeros and has a 1
abbrev pub least_weight : CodeRate → ℕ
least_weight Half = 10
least_weight TwoThirds = 6
least_weight ThreeQuarters = 5
