-- Bounds on carriers and on samples (own).
use Rattle.std.specs.Prelude.{ℕ, ◌<◌, ◌≤◌, List, map, sum}
use Rattle.std.specs.List.{range_with_len}
use Rattle.fixed_complex.specs.declared.Cx.{Cx}
use Rattle.fixed_complex.specs.Pairs.{IsOfSize}
use Rattle.fixed_complex.specs.PairLists.{entry}

-- there are bounds on the sizes of the 64 carriers that sum to at most 50112, which is twice 25056; a symbol has 48
-- points of size at most 990 and four pilots of size 648
pub record FitASample (carriers : List Cx) : Type 0 where
  pub sizes : ℕ → ℕ
  pub each : (bin : ℕ) → bin < 64 → IsOfSize (sizes bin) (entry carriers bin)
  pub total : sum (map sizes (range_with_len 0 64)) ≤ 50112
