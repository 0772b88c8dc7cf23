-- Edges and runs within the front of longer samples.
use Rattle.std.proofs.Common.{◌≡◌, ℕ, zero, suc, ◌<◌, ◌≤◌, ◌∙◌, List, ◌++◌, length, pos, refl, sym, ap, arith}
use Rattle.std.proofs.lemmas.List.{get_or_append_left}
use Rattle.fixed_complex.specs.declared.Sample.{Sample}
use Rattle.fixed_complex.specs.Samples.{sample_at}
use Rattle.lane_kernels.specs.Kernels.{is_loud}
use Rattle.frame_search.specs.Edges.{IsEdge}
use Rattle.frame_search.specs.Runs.{quiet_before}

-- a sample
pub sample_front : (xs ys : List Sample) (n : ℕ) → n < length xs → sample_at (xs ++ ys) n ≡ sample_at xs n
sample_front xs ys n inside = get_or_append_left xs ys (record { i = pos 0; q = pos 0 }) n inside

-- an edge
pub edge_front : (xs ys : List Sample) (p : ℕ) → p < length xs → IsEdge xs p → IsEdge (xs ++ ys) p
edge_front xs ys p inside edge = record {
  loud = ap is_loud (sample_front xs ys p inside) ∙ edge.loud;
  quiet = λ n below within. ap is_loud (sample_front xs ys n (omega arith)) ∙ edge.quiet n below within;
}

pub edge_back : (xs ys : List Sample) (p : ℕ) → p < length xs → IsEdge (xs ++ ys) p → IsEdge xs p
edge_back xs ys p inside edge = record {
  loud = sym (ap is_loud (sample_front xs ys p inside)) ∙ edge.loud;
  quiet = λ n below within. sym (ap is_loud (sample_front xs ys n (omega arith))) ∙ edge.quiet n below within;
}

-- a run
pub run_front : (xs ys : List Sample) (p : ℕ) → p ≤ length xs → quiet_before (xs ++ ys) p ≡ quiet_before xs p
unfolding quiet_before
run_front xs ys zero inside = refl
run_front xs ys (suc p) inside =
    let here = sample_front xs ys p (omega arith) in
    let before = run_front xs ys p (omega arith) in
    rw (quiet_before, here, before) refl
