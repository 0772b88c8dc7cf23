-- Edges of a capture, where a frame may begin (own).
use Rattle.std.specs.Prelude.{◌≡◌, ℕ, ◌+◌, ◌<◌, ◌≤◌, List, true, false}
use Rattle.fixed_complex.specs.declared.Sample.{Sample}
use Rattle.fixed_complex.specs.Samples.{sample_at}
use Rattle.lane_kernels.specs.Kernels.{is_loud}

-- each of the 16 samples before a place that exists is quiet
abbrev pub IsQuietBefore : List Sample → ℕ → Type 0
IsQuietBefore capture place =
    (before : ℕ) → before < place → place ≤ before + 16
    → is_loud (sample_at capture before) ≡ false

-- a place is an edge: its sample is loud, and each of the 16 before it that exists is quiet
pub record IsEdge (capture : List Sample) (place : ℕ) : Type 0 where
  pub loud : is_loud (sample_at capture place) ≡ true
  pub quiet : IsQuietBefore capture place

-- no place from one on and before another is an edge
abbrev pub NoEdge : List Sample → ℕ → ℕ → Type 0
NoEdge capture from upto = (place : ℕ) → from ≤ place → place < upto → ¬ IsEdge capture place

-- the least edge from a place on
pub record IsNextEdge (capture : List Sample) (from place : ℕ) : Type 0 where
  pub least : from ≤ place
  pub edge : IsEdge capture place
  pub none_before : NoEdge capture from place
