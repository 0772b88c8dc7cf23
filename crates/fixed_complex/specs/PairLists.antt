-- Lists of pairs place by place, and bounds on every pair of one (own).
use Rattle.std.specs.Prelude.{ℕ, ◌<◌, List, length, slice_index_or, pos}
use Rattle.fixed_complex.specs.declared.Cx.{Cx}
use Rattle.fixed_complex.specs.Pairs.{IsOfSize, IsWithin, multiple, zero_pair}

-- the pair at a place of a list, and 0 past its end
abbrev pub entry : List Cx → ℕ → Cx
entry pairs n = slice_index_or pairs n zero_pair

-- each component of each pair is at most so large in size
pub record PairsWithin (bound : ℕ) (pairs : List Cx) : Type 0 where
  pub each : (n : ℕ) → n < length pairs → IsWithin bound (entry pairs n)

-- each pair is at most so large in size
pub record PairsOfSize (bound : ℕ) (pairs : List Cx) : Type 0 where
  pub each : (n : ℕ) → n < length pairs → IsOfSize bound (entry pairs n)

-- pairs by place, each times 256
abbrev pub by_256 : (ℕ → Cx) → ℕ → Cx
by_256 pairs n = multiple (pos 256) (pairs n)
