-- Many samples more, none of which makes 400 stand from an edge on.
use Rattle.std.proofs.Common.{◌≡◌, ℕ, zero, suc, ◌+◌, ◌-◌, ◌*◌, ◌<◌, ◌≤◌, ◌∙◌, List, [], ◌∷◌, ◌++◌, length, min, take, drop, pos, Bool, true, false, ap, sym, refl, arith, subst, inl, inr, append-nil, append_assoc}
use Rattle.std.specs.Prelude.{if◌then◌else◌, Option, Some, None}
use Rattle.std.proofs.lemmas.Bool.{cases_Bool}
use Rattle.std.proofs.lemmas.Grind.{common_steps}
use Rattle.std.proofs.lemmas.List.{drop-append-le, drop-drop, get_or-drop, get_or-take, length-append, length-drop, length-take-le}
use Rattle.std.proofs.Math.Seq.{take-suc}
use Rattle.circular_buffer.specs.Buffer.{keep_last}
use Rattle.fixed_complex.specs.declared.Cx.{Cx}
use Rattle.fixed_complex.specs.declared.Sample.{Sample}
use Rattle.fixed_complex.specs.Samples.{sample_at}
use Rattle.lane_kernels.specs.Kernels.{is_loud}
use Rattle.survivor_memory.specs.Survivors.{MemoryView}
use Rattle.frame_search.specs.Runs.{quiet_before}
use Rattle.frame_search.proofs.Fronts.{edge_back, run_front}
use Rattle.frame_search.proofs.Runs.{run_before_edge, run_loud, run_quiet}
use Rattle.frame_findings.specs.declared.Heard.{Heard}
use Rattle.frame_findings.proofs.Walking.{walks_front}
use Rattle.frame_receiver.specs.declared.receiver.At.{At}
use Rattle.frame_receiver.specs.Receiving.{IsSearching, IsWithin, ReceiverView, Stands}
use Rattle.frame_receiver.specs.Tails.{IsTailOf, SettlesEdge, TailView, run_behind}
use Rattle.frame_receiver.proofs.Growing.{searches_on, within_on}
use Rattle.frame_receiver.proofs.Pushing.{no_edge_settles}

pub taken_of_front : (samples : List Sample) (most n : ℕ) → n ≤ length (take most samples) → take n (take most samples) ≡ take n samples
taken_of_front samples most n within = grind (arith, common_steps)

abbrev silent : Sample
silent = record { i = pos 0; q = pos 0 }

-- ---- runs
run_more : (quiet : ℕ) (samples : List Sample) (n : ℕ) → n < length samples
    → run_behind quiet (take (suc n) samples) ≡ (if is_loud (sample_at samples n) then 0 else min 16 (run_behind quiet (take n samples) + 1))
run_more quiet [] n inside = absurd (omega arith)
run_more quiet (sample ∷ samples) zero inside = refl
run_more quiet (sample ∷ samples) (suc n) inside = run_more (if is_loud sample then 0 else min 16 (quiet + 1)) samples n (omega arith)

pub run_one_more : (quiet : ℕ) (samples : List Sample) (n : ℕ) → n < length samples
    → run_behind quiet (take (n + 1) samples) ≡ (if is_loud (sample_at samples n) then 0 else min 16 (run_behind quiet (take n samples) + 1))
run_one_more quiet samples n inside =
    let next : n + 1 ≡ suc n = omega arith in ap (λ k. run_behind quiet (take k samples)) next ∙ run_more quiet samples n inside

-- a sample that doesn't end a whole run isn't loud behind one
pub calm_next : (quiet run n k : ℕ) (settling : List Sample) (ends : Bool) → run ≡ run_behind quiet (take n settling) → (((run ≡ 16) × (is_loud (sample_at settling n) ≡ true)) → ends ≡ true)
    → ends ≡ false → k ≡ n → run_behind quiet (take k settling) ≡ 16 → is_loud (sample_at settling k) ≡ false
calm_next quiet run n k settling ends so_far both not_ended same whole =
    elim (cases_Bool (is_loud (sample_at settling k))) [
      | inr calm ↦ calm
      | inl loud ↦
          let ended = both (so_far ∙ ap (λ m. run_behind quiet (take m settling)) (sym same) ∙ whole, ap (λ m. is_loud (sample_at settling m)) (sym same) ∙ loud) in
          absurd (cc)
    ]

-- the samples that settle are those of the run
pub record Settle (before settling : List Sample) (quiet most : ℕ) : Type 0 where
  pub long : 399 ≤ length before
  pub few : most ≤ 399
  pub held : most ≤ length settling
  pub run : quiet ≡ quiet_before before (length before - 399)
  pub at : (n : ℕ) → n < most → sample_at settling n ≡ sample_at before (length before - 399 + n)

pub runs_follow : (before settling : List Sample) (quiet most n : ℕ) → Settle before settling quiet most → n ≤ most
    → quiet_before before (length before - 399 + n) ≡ run_behind quiet (take n settling)
runs_follow before settling quiet most zero settle within =
    let place : length before - 399 + 0 ≡ length before - 399 = omega arith in
    ap (quiet_before before) place ∙ sym settle.run
runs_follow before settling quiet most (suc n) settle within =
    let place : length before - 399 + suc n ≡ length before - 399 + n + 1 = omega arith in
    let here = settle.at n (omega arith) in
    let so_far = runs_follow before settling quiet most n settle (omega arith) in
    let held = settle.held in
    let next = run_more quiet settling n (omega arith) in
    elim (cases_Bool (is_loud (sample_at settling n))) [
      | inl loud ↦
          ap (quiet_before before) place ∙ run_loud before (length before - 399 + n) (sym (ap is_loud here) ∙ loud) ∙ sym (next ∙ rw loud refl)
      | inr calm ↦
          ap (quiet_before before) place ∙ run_quiet before (length before - 399 + n) (sym (ap is_loud here) ∙ calm) ∙ ap (λ run. min 16 (run + 1)) so_far
          ∙ sym (next ∙ rw calm refl)
    ]

-- .. so no place is an edge whose sample isn't loud behind a whole run
pub none_settles : (before settling samples : List Sample) (quiet most n : ℕ) → Settle before settling quiet most → n < most → most ≤ length samples
    → (run_behind quiet (take n settling) ≡ 16 → is_loud (sample_at settling n) ≡ false) → SettlesEdge (before ++ take (n + 1) samples) → ⊥
none_settles before settling samples quiet most n settle inside room calm settles =
    let taken = take (n + 1) samples in
    let long = length-append before taken in
    let count = length-take-le (n + 1) samples (omega arith) in
    let enough = settle.long in
    let few = settle.few in
    let place : length (before ++ taken) - 400 ≡ length before - 399 + n = omega arith in
    let edge = edge_back before taken (length before - 399 + n) (omega arith) (rw place at settles.edge) in
    let run = run_before_edge before (length before - 399 + n) edge in
    let quiet_here = calm (sym (runs_follow before settling quiet most n settle (omega arith)) ∙ run) in
    let loud = ap is_loud (settle.at n inside) ∙ edge.loud in
    absurd (cc)

-- ---- the window
last_and_some : {A : Type 0} (n : ℕ) (xs ys : List A) → keep_last n (keep_last n xs ++ ys) ≡ keep_last n (xs ++ ys)
last_and_some n xs ys =
    let within : length xs - n ≤ length xs = omega arith in
    let begun = drop-append-le (length xs - n) xs ys within in
    let long = length-append xs ys in
    let both : keep_last n xs ++ ys ≡ drop (length xs - n) (xs ++ ys) = sym begun in
    let total : length (drop (length xs - n) (xs ++ ys)) ≡ length (xs ++ ys) - (length xs - n) = length-drop (length xs - n) (xs ++ ys) in
    let back : (length xs - n) + (length (drop (length xs - n) (xs ++ ys)) - n) ≡ length (xs ++ ys) - n = omega (arith, total, long) in
    ap (keep_last n) both ∙ drop-drop (length (drop (length xs - n) (xs ++ ys)) - n) (length xs - n) (xs ++ ys) ∙ ap (λ k. drop k (xs ++ ys)) back

pub settle : (before items settling : List Sample) (count quiet most : ℕ) → IsTailOf (record { items = items; count = count; quiet = quiet }) before → 1024 ≤ count
    → ((n : ℕ) → n < length settling → sample_at settling n ≡ sample_at items (625 + n)) → length settling ≤ 399 → most ≤ length settling
    → Settle before (take most settling) quiet most
settle before items settling count quiet most tail full at few within =
    let number = tail.count in
    record {
      long = omega arith;
      few = omega arith;
      held = omega (arith, length-take-le most settling within);
      run = tail.quiet;
      at = λ n inside.
          let front : sample_at (take most settling) n ≡ sample_at settling n = get_or-take most settling n silent inside in
          let place : length before - 1024 + (625 + n) ≡ length before - 399 + n = omega arith in
          front ∙ at n (omega arith) ∙ ap (λ list. sample_at list (625 + n)) tail.items ∙ get_or-drop (length before - 1024) before (625 + n) silent ∙ ap (sample_at before) place;
    }

pub tail_skims : (before items settling samples new : List Sample) (count quiet most taken after : ℕ) → IsTailOf (record { items = items; count = count; quiet = quiet }) before
    → Settle before settling quiet most → taken ≤ most → taken ≤ length samples → new ≡ keep_last 1024 (items ++ take taken samples) → after ≡ run_behind quiet (take taken settling)
    → IsTailOf (record { items = new; count = count + taken; quiet = after }) (before ++ take taken samples)
tail_skims before items settling samples new count quiet most taken after tail settle few room is run =
    let number = tail.count in
    let long = length-append before (take taken samples) in
    let more = length-take-le taken samples room in
    let enough = settle.long in
    let least = settle.few in
    let place : length (before ++ take taken samples) - 399 ≡ length before - 399 + taken = omega arith in
    record {
      items = is ∙ ap (λ kept. keep_last 1024 (kept ++ take taken samples)) tail.items ∙ last_and_some 1024 before (take taken samples);
      count = omega arith;
      quiet = run ∙ sym (runs_follow before settling quiet most taken settle few) ∙ sym (run_front before (take taken samples) (length before - 399 + taken) (omega arith))
          ∙ sym (ap (quiet_before (before ++ take taken samples)) place);
    }

pub none_taken : (before : List Sample) (samples : List Sample) → before ++ take 0 samples ≡ before
none_taken before samples = append-nil before

-- ---- a receiver
one_taken_more : (before samples : List Sample) (n : ℕ) → n < length samples → before ++ take (suc n) samples ≡ (before ++ take n samples) ++ sample_at samples n ∷ []
one_taken_more before samples n inside =
    ap (λ list. before ++ list) (take-suc samples n silent inside) ∙ sym (append_assoc before (take n samples) (sample_at samples n ∷ []))

searches_many : (before samples : List Sample) (n from : ℕ) (trellis : MemoryView) → n ≤ length samples → IsSearching before from trellis
    → ((k : ℕ) → k < n → SettlesEdge (before ++ take (k + 1) samples) → ⊥) → IsSearching (before ++ take n samples) from trellis
searches_many before samples zero from trellis room searching none = rw (append-nil before) searching
searches_many before samples (suc n) from trellis room searching none =
    let so_far = searches_many before samples n from trellis (omega arith) searching (λ k below. none k (omega arith)) in
    let front = before ++ take n samples in
    let sample = sample_at samples n in
    let next : suc n ≡ n + 1 = omega arith in
    let whole = one_taken_more before samples n (omega arith) in
    rw whole (searches_on front sample from trellis trellis so_far so_far.empty (no_edge_settles front sample from (λ settles behind.
    none n (omega arith) (subst (λ k. SettlesEdge (before ++ take k samples)) next (subst SettlesEdge (sym whole) settles)))))

within_many : (before samples : List Sample) (n from : ℕ) (at : At) (estimate : List Cx) (trellis : MemoryView) → n ≤ length samples → IsWithin before from at estimate trellis
    → length before + n < at.place + 480 + 80 * at.symbols → IsWithin (before ++ take n samples) from at estimate trellis
within_many before samples zero from at estimate trellis room within inside = rw (append-nil before) within
within_many before samples (suc n) from at estimate trellis room within inside =
    let so_far = within_many before samples n from at estimate trellis (omega arith) within (omega arith) in
    let front = before ++ take n samples in
    let long = length-append before (take n samples) in
    let count = length-take-le n samples (omega arith) in
    rw (one_taken_more before samples n (omega arith)) (within_on front (sample_at samples n) from at estimate trellis so_far (omega arith))

abbrev view : TailView → ℕ → Option At → List Cx → MemoryView → List ℕ → ℕ → ReceiverView
view tail from at estimate trellis psdu spent =
    record { tail = tail; from = from; at = at; estimate = estimate; trellis = trellis; psdu = psdu; spent = spent }

pub skims_searching : (before samples : List Sample) (heard : List Heard) (n : ℕ) (tail new : TailView) (from : ℕ) (estimate : List Cx) (trellis : MemoryView) (psdu : List ℕ)
    (spent more : ℕ) → Stands (view tail from None estimate trellis psdu spent) before heard → n ≤ length samples → IsTailOf new (before ++ take n samples)
    → ((k : ℕ) → k < n → SettlesEdge (before ++ take (k + 1) samples) → ⊥) → Stands (view new from None estimate trellis psdu more) (before ++ take n samples) heard
skims_searching before samples heard n tail new from estimate trellis psdu spent more stands room is none = record {
  tail = is;
  walks = walks_front before (take n samples) 0 from heard stands.walks;
  state = searches_many before samples n from trellis room stands.state none;
  last = stands.last;
}

pub skims_within : (before samples : List Sample) (heard : List Heard) (n : ℕ) (tail new : TailView) (from : ℕ) (at : At) (estimate : List Cx) (trellis : MemoryView) (psdu : List ℕ)
    (spent more : ℕ) → Stands (view tail from (Some at) estimate trellis psdu spent) before heard → n ≤ length samples → IsTailOf new (before ++ take n samples)
    → length before + n < at.place + 480 + 80 * at.symbols → Stands (view new from (Some at) estimate trellis psdu more) (before ++ take n samples) heard
skims_within before samples heard n tail new from at estimate trellis psdu spent more stands room is inside = record {
  tail = is;
  walks = walks_front before (take n samples) 0 from heard stands.walks;
  state = within_many before samples n from at estimate trellis room stands.state inside;
  last = stands.last;
}
