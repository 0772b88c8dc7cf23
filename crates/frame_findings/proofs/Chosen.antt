-- Chosen places: whether one is chosen, the next one, and its header.
use Rattle.std.proofs.Common.{◌≡◌, ℕ, ◌+◌, ◌≤◌, ◌⊎◌, List, ◌++◌, length, drop, true, sym, arith, inl, inr}
use Rattle.std.specs.Prelude.{Result, Ok, Err}
use Rattle.std.proofs.lemmas.Bool.{cases_Bool, cases_lt}
use Rattle.std.proofs.lemmas.List.{drop-append-le, length-append, length-drop}
use Rattle.fixed_complex.specs.declared.Sample.{Sample}
use Rattle.signal_field.specs.declared.Header.{Header}
use Rattle.signal_field.specs.declared.HeaderFault.{HeaderFault}
use Rattle.frame_search.specs.Match.{matches, part}
use Rattle.frame_search.proofs.Fronts.{edge_back, edge_front}
use Rattle.frame_search.proofs.Runs.{edge_or_not}
use Rattle.frame_reader.specs.Decisions.{plain_decisions}
use Rattle.frame_reader.specs.Frames.{Opens, SaysHeader}
use Rattle.frame_reader.proofs.Fronts.{opens_back, opens_front}
use Rattle.frame_reader.proofs.Readings.{one_header, some_header}
use Rattle.frame_findings.specs.Walk.{IsChosen, IsNextChosen, NoneChosen}
use Rattle.frame_findings.proofs.Places.{IsLeast, none_or_least, one_least}

-- one header opens samples
pub one_opening : (samples : List Sample) (header other : Header) → Opens samples header → Opens samples other → header ≡ other
one_opening samples header other first second =
    let same = one_header (plain_decisions samples) (Ok header) (Ok other) first.says second.says in cc

-- what SIGNAL says is a header, or a fault
read_or_not : (samples : List Sample) → matches (part samples 0 320) ≡ true → (read : Result Header HeaderFault) → SaysHeader (plain_decisions samples) read
    → ((header : Header) × Opens samples header) ⊎ ((header : Header) → Opens samples header → ⊥)
read_or_not samples like (Ok header) says = inl (header, record { like = like; says = says })
read_or_not samples like (Err fault) says =
    inr (λ header opens. let same = one_header (plain_decisions samples) (Ok header) (Err fault) opens.says says in absurd (cc))

-- some header opens samples, or none does
opens_or_not : (samples : List Sample) → ((header : Header) × Opens samples header) ⊎ ((header : Header) → Opens samples header → ⊥)
opens_or_not samples =
    elim (cases_Bool (matches (part samples 0 320))) [
      | inl like ↦ read_or_not samples like (some_header (plain_decisions samples)).0 (some_header (plain_decisions samples)).1
      | inr unlike ↦ inr (λ header opens. let like = opens.like in absurd (cc))
    ]

-- a place is chosen
abbrev pub IsChosenAt : List Sample → ℕ → Type 0
IsChosenAt capture place = (header : Header) × IsChosen capture place header

pub chosen_or_not : (capture : List Sample) (place : ℕ) → IsChosenAt capture place ⊎ (IsChosenAt capture place → ⊥)
chosen_or_not capture place =
    elim (edge_or_not capture place) [
      | inr no_edge ↦ inr (λ chosen. no_edge chosen.1.edge)
      | inl edge ↦ elim (cases_lt (length capture) (place + 400)) [
        | inl short ↦ inr (λ chosen. let within = chosen.1.within in omega arith)
        | inr within ↦ elim (opens_or_not (drop place capture)) [
          | inl opens ↦ inl (opens.0, record { edge = edge; within = within; opens = opens.1 })
          | inr closed ↦ inr (λ chosen. closed chosen.0 chosen.1.opens)
        ]
      ]
    ]

-- none is chosen from a place on, or there is a next one
pub next_or_none : (capture : List Sample) (from : ℕ)
    → NoneChosen capture from (length capture) ⊎ ((place : ℕ) × ((header : Header) × IsNextChosen capture from place header))
next_or_none capture from =
    elim (none_or_least (IsChosenAt capture) (chosen_or_not capture) (length capture) from) [
      | inl none ↦ inl (λ place header least below chosen. none place least (omega arith) (header, chosen))
      | inr found ↦ inr (
        found.0,
        (
          found.1.here.0,
          record {
            least = found.1.least;
            chosen = found.1.here.1;
            none_before = λ place header least below chosen. found.1.none_before place least below (header, chosen);
          },
        ),
      )
    ]

least_of : (capture : List Sample) (from place : ℕ) (header : Header) → IsNextChosen capture from place header → IsLeast (IsChosenAt capture) from place
least_of capture from place header next = record {
  least = next.least;
  here = (header, next.chosen);
  none_before = λ other least below chosen. next.none_before other chosen.0 least below chosen.1;
}

-- and only one
pub one_next : (capture : List Sample) (from place other : ℕ) (header header' : Header) → IsNextChosen capture from place header
    → IsNextChosen capture from other header' → (place ≡ other) × (header ≡ header')
one_next capture from place other header header' first second =
    let same = one_least (IsChosenAt capture) from place other (least_of capture from place header first) (least_of capture from other header' second) in
    let here = rw (sym same) at second.chosen in
    (same, one_opening (drop place capture) header header' first.chosen.opens here.opens)

-- where there is a next one, it isn't that none is chosen
pub next_is_some : (capture : List Sample) (from place : ℕ) (header : Header) → IsNextChosen capture from place header
    → NoneChosen capture from (length capture) → ⊥
next_is_some capture from place header next none =
    let within = next.chosen.within in
    none place header next.least (omega arith) next.chosen

-- in the front of longer samples
pub chosen_front : (xs ys : List Sample) (place : ℕ) (header : Header) → IsChosen xs place header → IsChosen (xs ++ ys) place header
chosen_front xs ys place header chosen =
    let within = chosen.within in
    let inside : place ≤ length xs = omega arith in
    let front = drop-append-le place xs ys inside in
    let long : 400 ≤ length (drop place xs) = omega (arith, length-drop place xs) in
    record {
      edge = edge_front xs ys place (omega arith) chosen.edge;
      within = omega (arith, length-append xs ys);
      opens = rw front (opens_front (drop place xs) ys header long chosen.opens);
    }

pub chosen_back : (xs ys : List Sample) (place : ℕ) (header : Header) → place + 400 ≤ length xs → IsChosen (xs ++ ys) place header → IsChosen xs place header
chosen_back xs ys place header within chosen =
    let inside : place ≤ length xs = omega arith in
    let front = drop-append-le place xs ys inside in
    let long : 400 ≤ length (drop place xs) = omega (arith, length-drop place xs) in
    record {
      edge = edge_back xs ys place (omega arith) chosen.edge;
      within = within;
      opens = opens_back (drop place xs) ys header long (rw front at chosen.opens);
    }

pub next_front : (xs ys : List Sample) (from place : ℕ) (header : Header) → IsNextChosen xs from place header → IsNextChosen (xs ++ ys) from place header
next_front xs ys from place header next =
    let within = next.chosen.within in
    record {
      least = next.least;
      chosen = chosen_front xs ys place header next.chosen;
      none_before = λ other other' least below chosen. next.none_before other other' least below (chosen_back xs ys other other' (omega arith) chosen);
    }
