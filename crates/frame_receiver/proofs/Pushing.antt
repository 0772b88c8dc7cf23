-- What a receiver stands for with one sample more: one lemma for each way that a push ends.
use Rattle.std.proofs.Common.{◌≡◌, ℕ, ◌+◌, ◌-◌, ◌*◌, ◌<◌, ◌≤◌, ◌∙◌, List, [], ◌∷◌, ◌++◌, length, drop, take, ap, sym, subst, arith}
use Rattle.std.specs.Prelude.{Option, Some, None, IfSome, IfNone}
use Rattle.std.proofs.Math.Seq.{take-append_seam}
use Rattle.std.proofs.lemmas.List.{length-append}
use Rattle.circular_buffer.specs.Buffer.{keep_last}
use Rattle.fixed_complex.specs.declared.Cx.{Cx}
use Rattle.fixed_complex.specs.declared.Sample.{Sample}
use Rattle.rate_table.specs.declared.Rate.{Rate}
use Rattle.rate_table.specs.Symbols.{bits_through_tail}
use Rattle.rate_table.specs.Table.{row_of}
use Rattle.survivor_memory.specs.Survivors.{MemoryView}
use Rattle.viterbi_lanes.specs.Decisions.{carried_steps, marks_of}
use Rattle.viterbi_lanes.specs.Marks.{StandsFor}
use Rattle.signal_field.specs.declared.Header.{Header}
use Rattle.frame_reader.specs.Decisions.{decisions_of, estimate_from, plain_decisions}
use Rattle.frame_reader.specs.Frames.{HasField, Opens, data_decisions, symbols_of}
use Rattle.frame_findings.specs.declared.Heard.{Heard}
use Rattle.frame_findings.specs.Walk.{IsChosen, end_of}
use Rattle.frame_findings.proofs.Walking.{walks_front}
use Rattle.frame_receiver.specs.declared.receiver.At.{At}
use Rattle.frame_receiver.specs.declared.receiver.Found.{Found}
use Rattle.frame_receiver.specs.Receiving.{IsLastPsdu, ReceiverView, Stands, TakesSymbol, frame_of}
use Rattle.frame_receiver.specs.Tails.{IsTailOf, SettlesEdge, TailView}
use Rattle.frame_receiver.proofs.Growing.{chooses, hears_on, none_behind, pairs_after, searches_on, symbol_on, walks_more, within_on}

-- a receiver of these parts
abbrev view : TailView → ℕ → Option At → List Cx → MemoryView → List ℕ → ℕ → ReceiverView
view tail from at estimate trellis psdu spent =
    record { tail = tail; from = from; at = at; estimate = estimate; trellis = trellis; psdu = psdu; spent = spent }

-- the search goes on: the place that settles isn't looked at
pub searches : (r : List Sample) (x : Sample) (heard : List Heard) (tail new : TailView) (from : ℕ) (estimate other : List Cx) (trellis after : MemoryView)
    (psdu : List ℕ) (spent more : ℕ) → Stands (view tail from None estimate trellis psdu spent) r heard → IsTailOf new (r ++ x ∷ []) → StandsFor after []
    → ((header : Header) → 400 ≤ length r + 1 → from ≤ length r + 1 - 400 → IsChosen (r ++ x ∷ []) (length r + 1 - 400) header → ⊥)
    → Stands (view new from None other after psdu more) (r ++ x ∷ []) heard
searches r x heard tail new from estimate other trellis after psdu spent more stands is empty settled = record {
  tail = is;
  walks = walks_front r (x ∷ []) 0 from heard stands.walks;
  state = searches_on r x from trellis after stands.state empty settled;
  last = stands.last;
}

-- no edge settles behind the last frame
pub no_edge_settles : (r : List Sample) (x : Sample) (from : ℕ) → (SettlesEdge (r ++ x ∷ []) → from + 400 ≤ length r + 1 → ⊥)
    → (header : Header) → 400 ≤ length r + 1 → from ≤ length r + 1 - 400 → IsChosen (r ++ x ∷ []) (length r + 1 - 400) header → ⊥
no_edge_settles r x from none header enough behind chosen =
    let long = length-append r (x ∷ []) in
    let place : length r + 1 - 400 ≡ length (r ++ x ∷ []) - 400 = omega arith in
    let edge = rw place at chosen.edge in
    none (record { long = omega arith; edge = edge }) (omega arith)

-- an edge was looked at
pub looks : (r : List Sample) (x : Sample) (heard : List Heard) (tail new : TailView) (from : ℕ) (at : Option At) (estimate other : List Cx) (trellis after : MemoryView)
    (psdu : List ℕ) (spent more : ℕ) → Stands (view tail from None estimate trellis psdu spent) r heard → IsTailOf new (r ++ x ∷ []) → SettlesEdge (r ++ x ∷ [])
    → from + 400 ≤ length r + 1 → StandsFor after [] → IfSome at (λ a. a.place + 400 ≡ length r + 1) → IfSome at (λ a. a.symbols ≡ 0)
    → IfSome at (λ a. 0 < symbols_of a.header) → IfSome at (λ a. Opens (keep_last 400 (r ++ x ∷ [])) a.header)
    → IfSome at (λ a. other ≡ estimate_from (keep_last 400 (r ++ x ∷ []))) → IfNone at ((header : Header) → Opens (keep_last 400 (r ++ x ∷ [])) header → ⊥)
    → Stands (view new from at other after psdu more) (r ++ x ∷ []) heard
looks r x heard tail new from None estimate other trellis after psdu spent more stands is settles behind empty here begun some opens channel none =
    searches r x heard tail new from estimate other trellis after psdu spent more stands is empty (λ header enough past chosen.
    let long = length-append r (x ∷ []) in
    let place : length r + 1 - 400 ≡ length (r ++ x ∷ []) - 400 = omega arith in
    none header (rw place at chosen.opens))
looks r x heard tail new from (Some at) estimate other trellis after psdu spent more stands is settles behind empty here begun some opens channel none =
    let long = length-append r (x ∷ []) in
    let place : length (r ++ x ∷ []) - 400 ≡ at.place = omega arith in
    let chosen : IsChosen (r ++ x ∷ []) at.place at.header = record { edge = rw place at settles.edge; within = omega arith; opens = rw place at opens } in
    record {
      tail = is;
      walks = walks_front r (x ∷ []) 0 from heard stands.walks;
      state = chooses r x from at other trellis after stands.state (omega arith) here begun chosen (rw place at channel) some empty;
      last = stands.last;
    }

-- within a symbol
pub goes_on_within : (r : List Sample) (x : Sample) (heard : List Heard) (tail new : TailView) (from : ℕ) (at : At) (estimate : List Cx) (trellis : MemoryView)
    (psdu : List ℕ) (spent more : ℕ) → Stands (view tail from (Some at) estimate trellis psdu spent) r heard → IsTailOf new (r ++ x ∷ [])
    → length r + 1 < at.place + 480 + 80 * at.symbols → Stands (view new from (Some at) estimate trellis psdu more) (r ++ x ∷ []) heard
goes_on_within r x heard tail new from at estimate trellis psdu spent more stands is inside = record {
  tail = is;
  walks = walks_front r (x ∷ []) 0 from heard stands.walks;
  state = within_on r x from at estimate trellis stands.state inside;
  last = stands.last;
}

-- at the end of a symbol that isn't the last one
pub takes_symbol : (r : List Sample) (x : Sample) (heard : List Heard) (tail new : TailView) (from : ℕ) (at : At) (estimate : List Cx) (trellis after : MemoryView)
    (psdu : List ℕ) (spent more : ℕ) → Stands (view tail from (Some at) estimate trellis psdu spent) r heard → IsTailOf new (r ++ x ∷ [])
    → at.place + 480 + 80 * at.symbols ≤ length r + 1 → at.symbols + 1 < symbols_of at.header
    → TakesSymbol at (decisions_of at.header.rate estimate (keep_last 64 (r ++ x ∷ []))) trellis after
    → Stands (view new from (Some (record { place = at.place; header = at.header; symbols = at.symbols + 1 })) estimate after psdu more) (r ++ x ∷ []) heard
takes_symbol r x heard tail new from at estimate trellis after psdu spent more stands is full less takes =
    let open_yet = stands.state.not_whole in
    record {
      tail = is;
      walks = walks_front r (x ∷ []) 0 from heard stands.walks;
      state = symbol_on r x from at estimate trellis after stands.state (omega arith) less takes;
      last = stands.last;
    }

-- the last of a list and one more
last_of_both : (xs ys : List Heard) (a b : Heard) → xs ++ a ∷ [] ≡ ys ++ b ∷ [] → a ≡ b
last_of_both [] [] a b same = cc
last_of_both [] (y ∷ []) a b same = absurd (cc)
last_of_both [] (y ∷ z ∷ ys) a b same = absurd (cc)
last_of_both (x ∷ []) [] a b same = absurd (cc)
last_of_both (x ∷ z ∷ xs) [] a b same = absurd (cc)
last_of_both (x ∷ xs) (y ∷ ys) a b same = last_of_both xs ys a b (cc)

last_is : (heard : List Heard) (next : Heard) → IsLastPsdu (heard ++ next ∷ []) next.psdu
last_is heard next front last same = ap (λ h. h.psdu) (last_of_both heard front next last same)

-- at the end of a frame
pub hears_frame : (r : List Sample) (x : Sample) (heard : List Heard) (tail new : TailView) (from upto : ℕ) (at : At) (estimate : List Cx) (trellis taken after : MemoryView)
    (psdu octets : List ℕ) (spent more : ℕ) (found : Found) → Stands (view tail from (Some at) estimate trellis psdu spent) r heard → IsTailOf new (r ++ x ∷ [])
    → upto ≡ length r + 1 → at.place + 480 + 80 * at.symbols ≤ length r + 1 → symbols_of at.header ≤ at.symbols + 1
    → TakesSymbol at (decisions_of at.header.rate estimate (keep_last 64 (r ++ x ∷ []))) trellis taken → found.start ≡ at.place → found.rate ≡ at.header.rate
    → found.length ≡ at.header.length
    → (StandsFor taken (marks_of (row_of at.header.rate).code_rate (data_decisions (plain_decisions (drop at.place (r ++ x ∷ []))) at.header.rate (at.symbols + 1))
    (carried_steps at.header.rate at.header.length (at.symbols + 1)))
    → HasField (plain_decisions (drop at.place (r ++ x ∷ []))) at.header found.seed octets)
    → StandsFor after [] → Stands (view new upto None estimate after octets more) (r ++ x ∷ []) (heard ++ frame_of found octets ∷ [])
hears_frame r x heard tail new from upto at estimate trellis taken after psdu octets spent more found stands is end full last takes start rate length' field empty =
    let open_yet = stands.state.not_whole in
    let left = stands.state.more in
    let long = length-append r (x ∷ []) in
    let ends : length r + 1 ≡ at.place + 480 + 80 * at.symbols = omega arith in
    let all : at.symbols + 1 ≡ symbols_of at.header = omega arith in
    let pairs = pairs_after r x from at estimate trellis taken stands.state ends takes in
    let hears = hears_on r x from at estimate trellis found.seed octets stands.state ends all (field pairs) in
    let same : record { start = at.place; rate = at.header.rate; length = at.header.length; seed = found.seed; psdu = octets } ≡ frame_of found octets =
    ap (λ n. record { start = n; rate = at.header.rate; length = at.header.length; seed = found.seed; psdu = octets }) (sym start)
    ∙ ap (λ n. record { start = found.start; rate = n; length = at.header.length; seed = found.seed; psdu = octets }) (sym rate)
    ∙ ap (λ n. record { start = found.start; rate = found.rate; length = n; seed = found.seed; psdu = octets }) (sym length') in
    let next = rw same at hears in
    let walks = walks_more (r ++ x ∷ []) 0 from heard (frame_of found octets) (walks_front r (x ∷ []) 0 from heard stands.walks) next in
    let first : end_of (record { start = at.place; rate = at.header.rate; length = at.header.length; seed = found.seed; psdu = octets }) ≡ upto = omega (arith, all, ends, end) in
    let behind : end_of (frame_of found octets) ≡ upto = sym (ap end_of same) ∙ first in
    record {
      tail = is;
      walks = rw behind at walks;
      state = none_behind (r ++ x ∷ []) upto after (omega arith) empty;
      last = last_is heard (frame_of found octets);
    }

-- the pairs of all symbols are those up to the end of the tail
pub all_pairs : (trellis : MemoryView) (decisions : Rate → ℕ → List ℕ) (at : At) (count : ℕ) → at.symbols + 1 ≡ count → count ≡ symbols_of at.header
    → carried_steps at.header.rate at.header.length count ≡ bits_through_tail at.header.length
    → StandsFor trellis (marks_of (row_of at.header.rate).code_rate (data_decisions decisions at.header.rate (at.symbols + 1))
    (carried_steps at.header.rate at.header.length (at.symbols + 1)))
    → StandsFor trellis (marks_of (row_of at.header.rate).code_rate (data_decisions decisions at.header.rate (symbols_of at.header)) (bits_through_tail at.header.length))
all_pairs trellis decisions at count last all whole pairs =
    let code_rate = (row_of at.header.rate).code_rate in
    let first = subst (λ k. StandsFor trellis (marks_of code_rate (data_decisions decisions at.header.rate k) (carried_steps at.header.rate at.header.length (at.symbols + 1))))
    (last ∙ all) pairs in
    subst (λ k. StandsFor trellis (marks_of code_rate (data_decisions decisions at.header.rate (symbols_of at.header)) k))
    (ap (carried_steps at.header.rate at.header.length) last ∙ whole) first

-- a front that was written to a list
pub front_read : (items new : List ℕ) (len n m : ℕ) → length new ≡ len → n ≡ m → take n (take len (new ++ drop (length new) items)) ≡ take m new
front_read items new len n m long same =
    ap (take n) (ap (λ k. take k (new ++ drop (length new) items)) (sym long) ∙ take-append_seam new (drop (length new) items)) ∙ ap (λ k. take k new) same
