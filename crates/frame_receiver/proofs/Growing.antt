-- One sample more: how a search and a frame go on.
use Rattle.std.proofs.Common.{◌≡◌, ℕ, ◌+◌, ◌-◌, ◌*◌, ◌<◌, ◌≤◌, ◌∙◌, List, [], ◌∷◌, ◌++◌, length, take, drop, refl, ap, sym, subst, arith, inl, inr}
use Rattle.std.proofs.lemmas.Bool.{cases_lt}
use Rattle.std.proofs.lemmas.List.{drop-append-le, drop-drop, length-append, length-drop, take_all}
use Rattle.circular_buffer.specs.Buffer.{keep_last}
use Rattle.fixed_complex.specs.declared.Cx.{Cx}
use Rattle.fixed_complex.specs.declared.Sample.{Sample}
use Rattle.rate_table.specs.declared.Rate.{Rate}
use Rattle.rate_table.specs.Table.{row_of}
use Rattle.survivor_memory.specs.Survivors.{MemoryView}
use Rattle.viterbi_lanes.specs.Decisions.{carried_steps, marks_of}
use Rattle.viterbi_lanes.specs.Marks.{StandsFor}
use Rattle.signal_field.specs.declared.Header.{Header}
use Rattle.frame_reader.specs.Decisions.{body_of, decisions_of, estimate_from, plain_decisions}
use Rattle.frame_reader.specs.Frames.{HasField, data_decisions, symbols_of}
use Rattle.frame_reader.proofs.Fronts.{data_front, data_more, estimate_front, length-data}
use Rattle.frame_findings.specs.declared.Heard.{Heard}
use Rattle.frame_findings.specs.Walk.{HearsNext, IsChosen, NoneChosen, Walks, end_of}
use Rattle.frame_findings.proofs.Chosen.{chosen_back, next_front}
use Rattle.frame_receiver.specs.declared.receiver.At.{At}
use Rattle.frame_receiver.specs.Receiving.{IsSearching, IsWithin, TakesSymbol}

-- none is chosen if none was and the place that settles isn't
none_more : (r : List Sample) (x : Sample) (from : ℕ) → NoneChosen r from (length r)
    → ((header : Header) → 400 ≤ length r + 1 → from ≤ length r + 1 - 400 → IsChosen (r ++ x ∷ []) (length r + 1 - 400) header → ⊥)
    → NoneChosen (r ++ x ∷ []) from (length (r ++ x ∷ []))
none_more r x from none settled place header least below chosen =
    let long = length-append r (x ∷ []) in
    let within = chosen.within in
    elim (cases_lt (length r) (place + 400)) [
      | inr inside ↦ none place header least (omega arith) (chosen_back r (x ∷ []) place header inside chosen)
      | inl outside ↦
          let at : place ≡ length r + 1 - 400 = omega arith in
          settled header (omega arith) (omega arith) (rw at at chosen)
    ]

-- the search goes on
pub searches_on : (r : List Sample) (x : Sample) (from : ℕ) (trellis new : MemoryView) → IsSearching r from trellis → StandsFor new []
    → ((header : Header) → 400 ≤ length r + 1 → from ≤ length r + 1 - 400 → IsChosen (r ++ x ∷ []) (length r + 1 - 400) header → ⊥)
    → IsSearching (r ++ x ∷ []) from new
searches_on r x from trellis new searching empty settled =
    let within = searching.within in
    record { none = none_more r x from searching.none settled; within = omega (arith, length-append r (x ∷ [])); empty = empty }

-- no pairs of no symbol
carried_none : (rate : Rate) (octets : ℕ) → carried_steps rate octets 0 ≡ 0
carried_none rate octets = omega arith

-- a place is chosen
pub chooses : (r : List Sample) (x : Sample) (from : ℕ) (at : At) (estimate : List Cx) (trellis new : MemoryView) → IsSearching r from trellis
    → from ≤ at.place → at.place + 400 ≡ length r + 1 → at.symbols ≡ 0 → IsChosen (r ++ x ∷ []) at.place at.header
    → estimate ≡ estimate_from (drop at.place (r ++ x ∷ [])) → 0 < symbols_of at.header → StandsFor new [] → IsWithin (r ++ x ∷ []) from at estimate new
chooses r x from at estimate trellis new searching least here begun chosen is some empty =
    let long = length-append r (x ∷ []) in
    let kept = data_decisions (plain_decisions (drop at.place (r ++ x ∷ []))) at.header.rate at.symbols in
    let none : carried_steps at.header.rate at.header.length at.symbols ≡ 0 = ap (carried_steps at.header.rate at.header.length) begun ∙ carried_none at.header.rate at.header.length in
    record {
      next = record {
        least = least;
        chosen = chosen;
        none_before = λ other other' past below before.
            searching.none other other' past (omega arith) (chosen_back r (x ∷ []) other other' (omega arith) before);
      };
      estimate_is = is;
      whole = omega arith;
      not_whole = omega arith;
      more = omega arith;
      pairs = subst (λ n. StandsFor new (marks_of (row_of at.header.rate).code_rate kept n)) (sym none) empty;
    }

-- what stands from the place on, with one sample more
from_place : (r : List Sample) (x : Sample) (place : ℕ) → place ≤ length r → drop place (r ++ x ∷ []) ≡ drop place r ++ x ∷ []
from_place r x place inside = drop-append-le place r (x ∷ []) inside

estimate_stays : (r : List Sample) (x : Sample) (place : ℕ) → place + 400 ≤ length r → estimate_from (drop place r) ≡ estimate_from (drop place (r ++ x ∷ []))
estimate_stays r x place within =
    sym (ap estimate_from (from_place r x place (omega arith)) ∙ estimate_front (drop place r) (x ∷ []) (omega (arith, length-drop place r)))

data_stays : (r : List Sample) (x : Sample) (place symbols : ℕ) (rate : Rate) → place + 400 + 80 * symbols ≤ length r
    → data_decisions (plain_decisions (drop place r)) rate symbols ≡ data_decisions (plain_decisions (drop place (r ++ x ∷ []))) rate symbols
data_stays r x place symbols rate within =
    sym (ap (λ samples. data_decisions (plain_decisions samples) rate symbols) (from_place r x place (omega arith))
    ∙ data_front (drop place r) (x ∷ []) rate symbols (omega (arith, length-drop place r)))

-- the frame goes on within a symbol
pub within_on : (r : List Sample) (x : Sample) (from : ℕ) (at : At) (estimate : List Cx) (trellis : MemoryView) → IsWithin r from at estimate trellis
    → length r + 1 < at.place + 480 + 80 * at.symbols → IsWithin (r ++ x ∷ []) from at estimate trellis
within_on r x from at estimate trellis within inside =
    let whole = within.whole in
    let long = length-append r (x ∷ []) in
    let kept = data_stays r x at.place at.symbols at.header.rate whole in
    record {
      next = next_front r (x ∷ []) from at.place at.header within.next;
      estimate_is = within.estimate_is ∙ estimate_stays r x at.place (omega arith);
      whole = omega arith;
      not_whole = omega arith;
      more = within.more;
      pairs = rw kept at within.pairs;
    }

-- the last 64 samples are the body of the symbol that they end
body_is : (r : List Sample) (place symbols : ℕ) → length r ≡ place + 480 + 80 * symbols → keep_last 64 r ≡ body_of (drop place r) (symbols + 1)
body_is r place symbols long =
    let from : place + (336 + 80 * (symbols + 1)) ≡ length r - 64 = omega arith in
    let joined = drop-drop (336 + 80 * (symbols + 1)) place r ∙ ap (λ k. drop k r) from in
    sym (ap (take 64) joined ∙ take_all 64 (drop (length r - 64) r) (omega (arith, length-drop (length r - 64) r)))

-- the decisions of its symbols, with those of this one
data_after : (r : List Sample) (x : Sample) (place symbols : ℕ) (rate : Rate) (estimate : List Cx) → estimate ≡ estimate_from (drop place r)
    → length r + 1 ≡ place + 480 + 80 * symbols
    → data_decisions (plain_decisions (drop place r)) rate symbols ++ decisions_of rate estimate (keep_last 64 (r ++ x ∷ []))
    ≡ data_decisions (plain_decisions (drop place (r ++ x ∷ []))) rate (symbols + 1)
unfolding plain_decisions
data_after r x place symbols rate estimate is long =
    let total = length-append r (x ∷ []) in
    let body = body_is (r ++ x ∷ []) place symbols (omega arith) in
    let channel = is ∙ estimate_stays r x place (omega arith) in
    let last : decisions_of rate estimate (keep_last 64 (r ++ x ∷ [])) ≡ plain_decisions (drop place (r ++ x ∷ [])) rate (symbols + 1) =
    ap (λ h. decisions_of rate h (keep_last 64 (r ++ x ∷ []))) channel ∙ ap (decisions_of rate (estimate_from (drop place (r ++ x ∷ [])))) body in
    ap (λ before. before ++ decisions_of rate estimate (keep_last 64 (r ++ x ∷ []))) (data_stays r x place symbols rate (omega arith))
    ∙ ap (λ symbol. data_decisions (plain_decisions (drop place (r ++ x ∷ []))) rate symbols ++ symbol) last
    ∙ sym (data_more (plain_decisions (drop place (r ++ x ∷ []))) rate symbols)

-- the trellis then stands for one symbol more
pub pairs_after : (r : List Sample) (x : Sample) (from : ℕ) (at : At) (estimate : List Cx) (trellis new : MemoryView) → IsWithin r from at estimate trellis
    → length r + 1 ≡ at.place + 480 + 80 * at.symbols → TakesSymbol at (decisions_of at.header.rate estimate (keep_last 64 (r ++ x ∷ []))) trellis new
    → StandsFor new (marks_of (row_of at.header.rate).code_rate (data_decisions (plain_decisions (drop at.place (r ++ x ∷ []))) at.header.rate (at.symbols + 1))
    (carried_steps at.header.rate at.header.length (at.symbols + 1)))
pairs_after r x from at estimate trellis new within long takes =
    let taken = takes (data_decisions (plain_decisions (drop at.place r)) at.header.rate at.symbols) (length-data (drop at.place r) at.header.rate at.symbols) within.pairs in
    let same = data_after r x at.place at.symbols at.header.rate estimate within.estimate_is long in
    rw same at taken

-- the frame goes on behind a symbol
pub symbol_on : (r : List Sample) (x : Sample) (from : ℕ) (at : At) (estimate : List Cx) (trellis new : MemoryView) → IsWithin r from at estimate trellis
    → length r + 1 ≡ at.place + 480 + 80 * at.symbols → at.symbols + 1 < symbols_of at.header
    → TakesSymbol at (decisions_of at.header.rate estimate (keep_last 64 (r ++ x ∷ []))) trellis new
    → IsWithin (r ++ x ∷ []) from (record { place = at.place; header = at.header; symbols = at.symbols + 1 }) estimate new
symbol_on r x from at estimate trellis new within long more takes =
    let total = length-append r (x ∷ []) in
    record {
      next = next_front r (x ∷ []) from at.place at.header within.next;
      estimate_is = within.estimate_is ∙ estimate_stays r x at.place (omega arith);
      whole = omega arith;
      not_whole = omega arith;
      more = more;
      pairs = pairs_after r x from at estimate trellis new within long takes;
    }

-- a frame is whole, and heard
pub hears_on : (r : List Sample) (x : Sample) (from : ℕ) (at : At) (estimate : List Cx) (trellis : MemoryView) (number : ℕ) (psdu : List ℕ) → IsWithin r from at estimate trellis
    → length r + 1 ≡ at.place + 480 + 80 * at.symbols → at.symbols + 1 ≡ symbols_of at.header
    → HasField (plain_decisions (drop at.place (r ++ x ∷ []))) at.header number psdu
    → HearsNext (r ++ x ∷ []) from (record { start = at.place; rate = at.header.rate; length = at.header.length; seed = number; psdu = psdu })
hears_on r x from at estimate trellis number psdu within long last field =
    let total = length-append r (x ∷ []) in
    record {
      header = at.header;
      next = next_front r (x ∷ []) from at.place at.header within.next;
      frame = record { whole = omega arith; rate = refl; octets = refl; field = field };
    }

-- a walk, and one frame more
pub walks_more : (r : List Sample) (from upto : ℕ) (heard : List Heard) (next : Heard) → Walks r from heard upto → HearsNext r upto next → Walks r from (heard ++ next ∷ []) (end_of next)
walks_more r from upto [] next walks hears = (rw (sym walks) at hears, refl)
walks_more r from upto (first ∷ heard) next walks hears = (walks.0, walks_more r (end_of first) upto heard next walks.1 hears)

-- and the search begins anew behind it
pub none_behind : (r : List Sample) (upto : ℕ) (trellis : MemoryView) → upto ≡ length r → StandsFor trellis [] → IsSearching r upto trellis
none_behind r upto trellis at empty =
    record { none = λ place header least below chosen. absurd (omega arith); within = omega arith; empty = empty }
