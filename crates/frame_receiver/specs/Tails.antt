-- The last samples of those that came (own).
use Rattle.std.specs.Prelude.{◌≡◌, ℕ, ◌+◌, ◌-◌, ◌≤◌, List, [], ◌∷◌, length, min, if◌then◌else◌}
use Rattle.circular_buffer.specs.Buffer.{keep_last}
use Rattle.fixed_complex.specs.declared.Sample.{Sample}
use Rattle.lane_kernels.specs.Kernels.{is_loud}
use Rattle.frame_search.specs.Edges.{IsEdge}
use Rattle.frame_search.specs.Runs.{quiet_before}

-- what a tail shows: the samples that are held, how many came, and a run of quiet samples
pub record TailView : Type 0 where
  pub items : List Sample
  pub count : ℕ
  pub quiet : ℕ

-- a tail is that of the samples that came: the last 1024 of them, their number, and the run of quiet samples before the
-- next place that will have 400 samples from it on
pub record IsTailOf (tail : TailView) (samples : List Sample) : Type 0 where
  pub items : tail.items ≡ keep_last 1024 samples
  pub count : tail.count ≡ length samples
  pub quiet : tail.quiet ≡ quiet_before samples (length samples - 399)

-- the last of samples made 400 stand from an edge on
pub record SettlesEdge (samples : List Sample) : Type 0 where
  pub long : 400 ≤ length samples
  pub edge : IsEdge samples (length samples - 400)

-- the run of quiet samples, at most 16, behind some samples, from the run before them
abbrev pub run_behind : ℕ → List Sample → ℕ
run_behind quiet [] = quiet
run_behind quiet (sample ∷ samples) =
    run_behind (if is_loud sample then 0 else min 16 (quiet + 1)) samples
