-- Edges of a capture: the first loud sample behind a place, and stretches without an edge.
use Rattle.std.proofs.Common.{◌≡◌, ℕ, ◌+◌, ◌-◌, ◌<◌, ◌≤◌, ◌∙◌, false, not, List, length, take, drop, pos, sym, ap, arith, inl, inr}
use Rattle.std.proofs.lemmas.Bool.{cases_lt}
use Rattle.std.proofs.lemmas.List.{length-drop, get_or-drop, take_all}
use Rattle.std.proofs.lemmas.List.Sums.{fails_before_first, prefix_len-le-length}
use Rattle.fixed_complex.specs.declared.Sample.{Sample}
use Rattle.fixed_complex.specs.Samples.{sample_at}
use Rattle.lane_kernels.specs.Kernels.{first_loud_of, is_loud}
use Rattle.frame_search.specs.Edges.{IsEdge, NoEdge}

-- the first loud place of what stands from a place on is within it
pub first_loud-within : (xs : List Sample) (from : ℕ) → from ≤ length xs → from + first_loud_of (take (length xs - from) (drop from xs)) ≤ length xs
unfolding first_loud_of
first_loud-within xs from within =
    let whole : take (length xs - from) (drop from xs) ≡ drop from xs = take_all _ _ (omega (arith, length-drop from xs)) in
    let least = prefix_len-le-length (λ x. not (is_loud x)) (drop from xs) in
    rw whole (omega (arith, least, length-drop from xs))

-- the samples before the first loud one are quiet
pub quiet_before_first : (xs : List Sample) (from place : ℕ) → from ≤ length xs → from ≤ place → place < from + first_loud_of (take (length xs - from) (drop from xs)) → is_loud (sample_at xs place) ≡ false
unfolding first_loud_of
quiet_before_first xs from place within least below =
    let whole : take (length xs - from) (drop from xs) ≡ drop from xs = take_all _ _ (omega (arith, length-drop from xs)) in
    let silence : Sample = record { i = pos 0; q = pos 0 } in
    let before = rw whole at below in
    let e : from + (place - from) ≡ place = omega arith in
    let quiet = fails_before_first is_loud (drop from xs) (place - from) silence (omega arith) in
    let at = ap is_loud (get_or-drop from xs (place - from) silence) in
    ap (λ n. is_loud (sample_at xs n)) (sym e) ∙ (sym at ∙ quiet)

-- no edge among quiet samples
pub no_edge-quiet : (xs : List Sample) (from upto : ℕ) → ((place : ℕ) → from ≤ place → place < upto → is_loud (sample_at xs place) ≡ false) → NoEdge xs from upto
no_edge-quiet xs from upto quiet place least below edge = grind (arith, quiet place least below, edge.loud)

-- no edge at a place, and none behind it up to another
pub no_edge-more : (xs : List Sample) (from place upto : ℕ) → NoEdge xs from place → (IsEdge xs place → ⊥) → NoEdge xs (place + 1) upto → NoEdge xs from upto
no_edge-more xs from place upto before here behind n least below edge =
    elim (cases_lt n place) [
      | inl lt ↦ before n least lt edge
      | inr ge ↦ elim (cases_lt place n) [
        | inl past ↦ behind n (omega arith) below edge
        | inr le ↦ let at : n ≡ place = omega arith in here (rw at at edge)
      ]
    ]
