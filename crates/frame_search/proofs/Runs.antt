-- The run of quiet samples before a place: what it says of the samples there, and how it grows.
use Rattle.std.proofs.Common.{◌≡◌, ℕ, zero, suc, ◌+◌, ◌<◌, ◌≤◌, ◌∙◌, ◌⊎◌, true, false, min, List, refl, ap, arith, inl, inr}
use Rattle.std.proofs.lemmas.Bool.{cases_Bool, cases_lt}
use Rattle.fixed_complex.specs.declared.Sample.{Sample}
use Rattle.fixed_complex.specs.Samples.{sample_at}
use Rattle.lane_kernels.specs.Kernels.{is_loud}
use Rattle.frame_search.specs.Edges.{IsEdge, IsQuietBefore}
use Rattle.frame_search.specs.Runs.{quiet_before}

-- before the first place
pub run_at_start : (xs : List Sample) → quiet_before xs 0 ≡ 16
unfolding quiet_before
run_at_start xs = refl

-- behind a loud sample, and behind a quiet one
loud_next : (xs : List Sample) (p : ℕ) → is_loud (sample_at xs p) ≡ true → quiet_before xs (suc p) ≡ 0
unfolding quiet_before
loud_next xs p loud = rw (quiet_before, loud) refl

quiet_next : (xs : List Sample) (p : ℕ) → is_loud (sample_at xs p) ≡ false → quiet_before xs (suc p) ≡ min 16 (quiet_before xs p + 1)
unfolding quiet_before
quiet_next xs p quiet = rw (quiet_before, quiet) refl

pub run_loud : (xs : List Sample) (p : ℕ) → is_loud (sample_at xs p) ≡ true → quiet_before xs (p + 1) ≡ 0
run_loud xs p loud = let next : p + 1 ≡ suc p = omega arith in ap (quiet_before xs) next ∙ loud_next xs p loud

pub run_quiet : (xs : List Sample) (p : ℕ) → is_loud (sample_at xs p) ≡ false → quiet_before xs (p + 1) ≡ min 16 (quiet_before xs p + 1)
run_quiet xs p quiet = let next : p + 1 ≡ suc p = omega arith in ap (quiet_before xs) next ∙ quiet_next xs p quiet

-- it is at most 16
pub run_at_most : (xs : List Sample) (p : ℕ) → quiet_before xs p ≤ 16
run_at_most xs zero = omega (arith, run_at_start xs)
run_at_most xs (suc p) =
    elim (cases_Bool (is_loud (sample_at xs p))) [
      | inl loud ↦ omega (arith, loud_next xs p loud)
      | inr quiet ↦ omega (arith, quiet_next xs p quiet)
    ]

-- the samples of the run are quiet
pub run_is_quiet : (xs : List Sample) (p n : ℕ) → n < p → p ≤ n + quiet_before xs p → is_loud (sample_at xs n) ≡ false
run_is_quiet xs zero n below run = absurd (omega arith)
run_is_quiet xs (suc p) n below run =
    elim (cases_Bool (is_loud (sample_at xs p))) [
      | inl loud ↦ absurd (omega (arith, loud_next xs p loud))
      | inr quiet ↦ elim (cases_lt n p) [
        | inl lt ↦ run_is_quiet xs p n lt (omega (arith, quiet_next xs p quiet))
        | inr ge ↦ let at : n ≡ p = omega arith in rw at quiet
      ]
    ]

-- a shorter run than 16 stops at a loud sample
record StopsAt (xs : List Sample) (p : ℕ) (n : ℕ) : Type 0 where
  below : n < p
  run : p ≡ n + 1 + quiet_before xs p
  loud : is_loud (sample_at xs n) ≡ true

run_stops : (xs : List Sample) (p : ℕ) → quiet_before xs p < 16 → (n : ℕ) × StopsAt xs p n
run_stops xs zero short = absurd (omega (arith, run_at_start xs))
run_stops xs (suc p) short =
    elim (cases_Bool (is_loud (sample_at xs p))) [
      | inl loud ↦ (p, record { below = omega arith; run = omega (arith, loud_next xs p loud); loud = loud })
      | inr quiet ↦
          let grown = quiet_next xs p quiet in
          let before = run_stops xs p (omega (arith, grown)) in
          let stop = before.1 in
          (before.0, record { below = omega (arith, stop.below); run = omega (arith, grown, stop.run, short); loud = stop.loud })
    ]

-- a run of 16 is what an edge needs before it
pub quiet_of_run : (xs : List Sample) (p : ℕ) → quiet_before xs p ≡ 16 → IsQuietBefore xs p
quiet_of_run xs p whole n below within = run_is_quiet xs p n below (omega arith)

pub run_of_quiet : (xs : List Sample) (p : ℕ) → IsQuietBefore xs p → quiet_before xs p ≡ 16
run_of_quiet xs p quiet =
    elim (cases_lt (quiet_before xs p) 16) [
      | inl short ↦
          let stop = run_stops xs p short in
          let calm = quiet stop.0 stop.1.below (omega (arith, stop.1.run)) in
          absurd (grind (arith, calm, stop.1.loud))
      | inr whole ↦ omega (arith, run_at_most xs p)
    ]

-- so an edge is a loud sample behind a run of 16
pub edge_after_run : (xs : List Sample) (p : ℕ) → is_loud (sample_at xs p) ≡ true → quiet_before xs p ≡ 16 → IsEdge xs p
edge_after_run xs p loud whole = record { loud = loud; quiet = quiet_of_run xs p whole }

pub run_before_edge : (xs : List Sample) (p : ℕ) → IsEdge xs p → quiet_before xs p ≡ 16
run_before_edge xs p edge = run_of_quiet xs p edge.quiet

pub edge_or_not : (xs : List Sample) (p : ℕ) → IsEdge xs p ⊎ (IsEdge xs p → ⊥)
edge_or_not xs p =
    elim (cases_Bool (is_loud (sample_at xs p))) [
      | inl loud ↦ elim (cases_lt (quiet_before xs p) 16) [
        | inl short ↦ inr (λ edge. absurd (omega (arith, run_before_edge xs p edge)))
        | inr whole ↦ inl (edge_after_run xs p loud (omega (arith, run_at_most xs p)))
      ]
      | inr quiet ↦ inr (λ edge. absurd (grind (arith, quiet, edge.loud)))
    ]
