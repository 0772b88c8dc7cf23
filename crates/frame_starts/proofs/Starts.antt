-- The frame at a start comes to one thing, and a frame that a walk hears is the one at its start.
use Rattle.std.proofs.Common.{◌≡◌, ℕ, List, [], ◌∷◌, All, drop, refl, sym, ap, ◌∙◌, inl, inr, arith}
use Rattle.std.specs.Prelude.{Result, Ok, Err}
use Rattle.std.proofs.lemmas.Bool.{cases_lt}
use Rattle.std.proofs.lemmas.List.Elements.{All-cons, All-nil}
use Rattle.fixed_complex.specs.declared.Sample.{Sample}
use Rattle.rate_table.specs.declared.Rate.{Rate}
use Rattle.signal_field.specs.declared.Header.{Header}
use Rattle.signal_field.specs.declared.HeaderFault.{HeaderFault}
use Rattle.frame_reader.specs.Decisions.{plain_decisions}
use Rattle.frame_reader.specs.Frames.{SaysHeader, need_of}
use Rattle.frame_reader.proofs.Readings.{one_field, one_header, some_field, some_header}
use Rattle.frame_findings.specs.declared.Heard.{Heard}
use Rattle.frame_findings.specs.Walk.{IsHeard, Walks, end_of}
use Rattle.frame_findings.proofs.Walking.{heard_alike}
use Rattle.frame_starts.specs.declared.AtFault.{AtFault}
use Rattle.frame_starts.specs.declared.AtFault.TheVariants.{BadHeader, CutAt}
use Rattle.frame_starts.specs.Laws.{FoundAreThere, OneFrameAt, SomeFrameAt}
use Rattle.frame_starts.specs.Starts.{IsFrameAt, ReadsAt, cut, heard, no_header, short, standing}

-- a frame with a header is heard in one way
pub one_heard_at : (decisions : Rate → ℕ → List ℕ) (capture : List Sample) (header other : Header) (frame else : Heard) → header ≡ other → frame.start ≡ else.start
    → IsHeard decisions capture header frame → IsHeard decisions capture other else → frame ≡ else
one_heard_at decisions capture header other frame else same start first second =
    let field = one_field decisions header frame.seed else.seed frame.psdu else.psdu first.field (rw (sym same) at second.field) in
    heard_alike frame else start (first.rate ∙ ap (λ h. h.rate) same ∙ sym second.rate) (first.octets ∙ ap (λ h. h.length) same ∙ sym second.octets) field.0 field.1

-- a start has one header
header_is : Result Header HeaderFault → Header → Header
header_is (Ok header) other = header
header_is (Err fault) other = other

one_header_at : (decisions : Rate → ℕ → List ℕ) (a b : Header) → SaysHeader decisions (Ok a) → SaysHeader decisions (Ok b) → a ≡ b
unfolding header_is
one_header_at decisions a b first second = ap (λ read. header_is read a) (one_header decisions (Ok a) (Ok b) first second)

not_both : (decisions : Rate → ℕ → List ℕ) (header : Header) (fault : HeaderFault) → SaysHeader decisions (Ok header) → SaysHeader decisions (Err fault) → ⊥
not_both decisions header fault good bad = let same = one_header decisions (Ok header) (Err fault) good bad in cc

pub one_frame_at : OneFrameAt
one_frame_at decisions capture start x y (short few is) (short few' is') = is ∙ sym is'
one_frame_at decisions capture start x y (short few is) (no_header fault reads is') = absurd (omega (arith, few, reads.0))
one_frame_at decisions capture start x y (short few is) (cut header reads less is') = absurd (omega (arith, few, reads.0))
one_frame_at decisions capture start x y (short few is) (heard header reads frame at has is') = absurd (omega (arith, few, reads.0))
one_frame_at decisions capture start x y (no_header fault reads is) (short few is') = absurd (omega (arith, few, reads.0))
one_frame_at decisions capture start x y (cut header reads less is) (short few is') = absurd (omega (arith, few, reads.0))
one_frame_at decisions capture start x y (heard header reads frame at has is) (short few is') = absurd (omega (arith, few, reads.0))
one_frame_at decisions capture start x y (no_header fault reads is) (no_header fault' reads' is') = is ∙ sym is'
one_frame_at decisions capture start x y (no_header fault reads is) (cut header reads' less is') = absurd (not_both (decisions (drop start capture)) header fault reads'.1 reads.1)
one_frame_at decisions capture start x y (no_header fault reads is) (heard header reads' frame at has is') = absurd (not_both (decisions (drop start capture)) header fault reads'.1 reads.1)
one_frame_at decisions capture start x y (cut header reads less is) (no_header fault reads' is') = absurd (not_both (decisions (drop start capture)) header fault reads.1 reads'.1)
one_frame_at decisions capture start x y (heard header reads frame at has is) (no_header fault reads' is') = absurd (not_both (decisions (drop start capture)) header fault reads.1 reads'.1)
one_frame_at decisions capture start x y (cut header reads less is) (cut other reads' less' is') =
    is ∙ ap (λ (h : Header). Err (CutAt start (standing capture start) (need_of h))) (one_header_at (decisions (drop start capture)) header other reads.1 reads'.1) ∙ sym is'
one_frame_at decisions capture start x y (cut header reads less is) (heard other reads' frame at has is') =
    let same = ap need_of (one_header_at (decisions (drop start capture)) header other reads.1 reads'.1) in absurd (omega (arith, less, same, at, has.whole))
one_frame_at decisions capture start x y (heard other reads' frame at has is') (cut header reads less is) =
    let same = ap need_of (one_header_at (decisions (drop start capture)) header other reads.1 reads'.1) in absurd (omega (arith, less, same, at, has.whole))
one_frame_at decisions capture start x y (heard header reads frame at has is) (heard other reads' else at' has' is') =
    is ∙ ap Ok (one_heard_at (decisions (drop start capture)) capture header other frame else (one_header_at (decisions (drop start capture)) header other reads.1 reads'.1) (at ∙ sym at') has has') ∙ sym is'

-- behind its header a frame is whole, or cut
with_header : (decisions : List Sample → Rate → ℕ → List ℕ) (capture : List Sample) (start : ℕ) (header : Header) → ReadsAt decisions capture start (Ok header)
    → (answer : Result Heard AtFault) × IsFrameAt decisions capture start answer
with_header decisions capture start header reads =
    elim (cases_lt (standing capture start) (need_of header)) [
      | inl less ↦ (Err (CutAt start (standing capture start) (need_of header)), cut header reads less refl)
      | inr whole ↦
          let field = some_field (decisions (drop start capture)) header in
          let frame : Heard = record { start = start; rate = header.rate; length = header.length; seed = field.0; psdu = field.1.0 } in
          (Ok frame, heard header reads frame refl (record { whole = omega (arith, reads.0, whole); rate = refl; octets = refl; field = field.1.1 }) refl)
    ]

with_reading : (decisions : List Sample → Rate → ℕ → List ℕ) (capture : List Sample) (start : ℕ) (read : Result Header HeaderFault) → ReadsAt decisions capture start read
    → (answer : Result Heard AtFault) × IsFrameAt decisions capture start answer
with_reading decisions capture start (Err fault) reads = (Err (BadHeader start), no_header fault reads refl)
with_reading decisions capture start (Ok header) reads = with_header decisions capture start header reads

pub some_frame_at : SomeFrameAt
some_frame_at decisions capture start =
    elim (cases_lt (standing capture start) 400) [
      | inl few ↦ (Err (CutAt start (standing capture start) 400), short few refl)
      | inr enough ↦ let read = some_header (decisions (drop start capture)) in with_reading decisions capture start read.0 (enough, read.1)
    ]

-- the frames of a walk are at their starts
abbrev pub IsThere : List Sample → Heard → Type 0
IsThere capture frame = IsFrameAt plain_decisions capture frame.start (Ok frame)

walk_there : (capture : List Sample) (from upto : ℕ) (frames : List Heard) → Walks capture from frames upto → All (IsThere capture) frames
walk_there capture from upto [] walks = All-nil (IsThere capture)
walk_there capture from upto (frame ∷ frames) (hears, walks) =
    let chosen = hears.next.chosen in
    All-cons (IsThere capture) frame frames (heard hears.header (let inside = chosen.within in omega arith, chosen.opens.says) frame refl hears.frame refl)
    (walk_there capture (end_of frame) upto frames walks)

pub found_are_there : FoundAreThere
found_are_there capture frames end found = walk_there capture 0 found.upto frames found.walks
