-- One sample more: the place that 400 samples then stand from on.
use Rattle.std.proofs.Common.{◌≡◌, ℕ, ◌+◌, ◌-◌, ◌<◌, ◌≤◌, ◌∙◌, List, [], ◌∷◌, ◌++◌, length, min, true, false, ap, sym, refl, arith, inl, inr}
use Rattle.std.specs.Prelude.{if◌then◌else◌}
use Rattle.std.proofs.lemmas.Bool.{cases_Bool}
use Rattle.std.proofs.lemmas.List.{length-append}
use Rattle.circular_buffer.specs.Buffer.{keep_last}
use Rattle.fixed_complex.specs.declared.Sample.{Sample}
use Rattle.fixed_complex.specs.Samples.{sample_at}
use Rattle.lane_kernels.specs.Kernels.{is_loud}
use Rattle.frame_search.specs.Runs.{quiet_before}
use Rattle.frame_search.proofs.Fronts.{run_front}
use Rattle.frame_search.proofs.Runs.{edge_after_run, run_at_start, run_before_edge, run_loud, run_quiet}
use Rattle.frame_receiver.specs.Tails.{IsTailOf, SettlesEdge}
use Rattle.frame_receiver.proofs.Kept.{last_and_more, length-kept, sample_back}

-- before the first sample
pub tail_of_none : IsTailOf (record { items = []; count = 0; quiet = 16 }) []
tail_of_none = record { items = refl; count = refl; quiet = sym (run_at_start []) }

items_after : (r : List Sample) (x : Sample) (items new : List Sample) → items ≡ keep_last 1024 r → new ≡ keep_last 1024 (items ++ x ∷ []) → new ≡ keep_last 1024 (r ++ x ∷ [])
items_after r x items new old is = is ∙ ap (λ kept. keep_last 1024 (kept ++ x ∷ [])) old ∙ last_and_more 1024 r x

-- fewer than 400 samples
pub tail_short : (r : List Sample) (x : Sample) (items new : List Sample) (count quiet : ℕ) → IsTailOf (record { items = items; count = count; quiet = quiet }) r
    → new ≡ keep_last 1024 (items ++ x ∷ []) → count + 1 < 400 → IsTailOf (record { items = new; count = count + 1; quiet = quiet }) (r ++ x ∷ [])
tail_short r x items new count quiet tail is short =
    let number = tail.count in
    let long = length-append r (x ∷ []) in
    let before : length r - 399 ≡ 0 = omega arith in
    let behind : length (r ++ x ∷ []) - 399 ≡ 0 = omega arith in
    record {
      items = items_after r x items new tail.items is;
      count = omega arith;
      quiet = tail.quiet ∙ ap (quiet_before r) before ∙ run_at_start r ∙ sym (run_at_start (r ++ x ∷ [])) ∙ sym (ap (quiet_before (r ++ x ∷ [])) behind);
    }

-- the sample at the place that settles
settled_is : (r : List Sample) (x settled : Sample) (new : List Sample) → new ≡ keep_last 1024 (r ++ x ∷ []) → 399 < length new → settled ≡ sample_at new (length new - 1 - 399)
    → settled ≡ sample_at (r ++ x ∷ []) (length r - 399)
settled_is r x settled new is inside at =
    let long = length-append r (x ∷ []) in
    let here = sample_back 1024 (r ++ x ∷ []) 399 (rw is at inside) in
    let place : length (r ++ x ∷ []) - 1 - 399 ≡ length r - 399 = omega arith in
    at ∙ ap (λ kept. sample_at kept (length kept - 1 - 399)) is ∙ here ∙ ap (sample_at (r ++ x ∷ [])) place

-- the run behind it
run_next : (r : List Sample) (x settled : Sample) (quiet : ℕ) → quiet ≡ quiet_before r (length r - 399) → settled ≡ sample_at (r ++ x ∷ []) (length r - 399)
    → (if is_loud settled then 0 else min 16 (quiet + 1)) ≡ quiet_before (r ++ x ∷ []) (length r - 399 + 1)
run_next r x settled quiet run at =
    let same = run_front r (x ∷ []) (length r - 399) (omega arith) in
    elim (cases_Bool (is_loud settled)) [
      | inl loud ↦
          let here : is_loud (sample_at (r ++ x ∷ []) (length r - 399)) ≡ true = sym (ap is_loud at) ∙ loud in
          rw loud (sym (run_loud (r ++ x ∷ []) (length r - 399) here))
      | inr calm ↦
          let here : is_loud (sample_at (r ++ x ∷ []) (length r - 399)) ≡ false = sym (ap is_loud at) ∙ calm in
          rw calm (ap (λ n. min 16 (n + 1)) (run ∙ sym same) ∙ sym (run_quiet (r ++ x ∷ []) (length r - 399) here))
    ]

-- 400 samples or more
pub tail_settles : (r : List Sample) (x settled : Sample) (items new : List Sample) (count quiet after : ℕ)
    → IsTailOf (record { items = items; count = count; quiet = quiet }) r → new ≡ keep_last 1024 (items ++ x ∷ []) → 400 ≤ count + 1 → 399 < length new
    → settled ≡ sample_at new (length new - 1 - 399) → after ≡ (if is_loud settled then 0 else min 16 (quiet + 1))
    → IsTailOf (record { items = new; count = count + 1; quiet = after }) (r ++ x ∷ [])
tail_settles r x settled items new count quiet after tail is enough inside at run =
    let number = tail.count in
    let long = length-append r (x ∷ []) in
    let kept = items_after r x items new tail.items is in
    let place : length r - 399 + 1 ≡ length (r ++ x ∷ []) - 399 = omega arith in
    record {
      items = kept;
      count = omega arith;
      quiet = run ∙ run_next r x settled quiet tail.quiet (settled_is r x settled new kept inside at) ∙ ap (quiet_before (r ++ x ∷ [])) place;
    }

-- whether the place is an edge
pub edge_settles : (r : List Sample) (x settled : Sample) (items new : List Sample) (count quiet : ℕ)
    → IsTailOf (record { items = items; count = count; quiet = quiet }) r → new ≡ keep_last 1024 (items ++ x ∷ []) → 400 ≤ count + 1 → 399 < length new
    → settled ≡ sample_at new (length new - 1 - 399) → quiet ≡ 16 → is_loud settled ≡ true → SettlesEdge (r ++ x ∷ [])
edge_settles r x settled items new count quiet tail is enough inside at run loud =
    let number = tail.count in
    let long = length-append r (x ∷ []) in
    let kept = items_after r x items new tail.items is in
    let here = settled_is r x settled new kept inside at in
    let same = run_front r (x ∷ []) (length r - 399) (omega arith) in
    let place : length r - 399 ≡ length (r ++ x ∷ []) - 400 = omega arith in
    let edge = edge_after_run (r ++ x ∷ []) (length r - 399) (sym (ap is_loud here) ∙ loud) (same ∙ sym tail.quiet ∙ run) in
    record { long = omega arith; edge = rw place at edge }

pub settles_edge : (r : List Sample) (x settled : Sample) (items new : List Sample) (count quiet : ℕ)
    → IsTailOf (record { items = items; count = count; quiet = quiet }) r → new ≡ keep_last 1024 (items ++ x ∷ []) → 400 ≤ count + 1 → 399 < length new
    → settled ≡ sample_at new (length new - 1 - 399) → SettlesEdge (r ++ x ∷ []) → (quiet ≡ 16) × (is_loud settled ≡ true)
settles_edge r x settled items new count quiet tail is enough inside at settles =
    let number = tail.count in
    let long = length-append r (x ∷ []) in
    let kept = items_after r x items new tail.items is in
    let here = settled_is r x settled new kept inside at in
    let same = run_front r (x ∷ []) (length r - 399) (omega arith) in
    let place : length (r ++ x ∷ []) - 400 ≡ length r - 399 = omega arith in
    let edge = rw place at settles.edge in
    (tail.quiet ∙ sym same ∙ run_before_edge (r ++ x ∷ []) (length r - 399) edge, ap is_loud here ∙ edge.loud)

-- 400 are held then
pub enough_held : (items new : List Sample) (x : Sample) (count : ℕ) → length items ≡ min 1024 count → new ≡ keep_last 1024 (items ++ x ∷ []) → 400 ≤ count + 1 → 399 < length new
enough_held items new x count held is enough =
    let long = length-append items (x ∷ []) in
    let kept = ap length is ∙ length-kept 1024 (items ++ x ∷ []) in
    omega (arith, kept, long, held)
