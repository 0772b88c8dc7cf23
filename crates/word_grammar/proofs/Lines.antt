-- Texts of lines, each with the mark behind it: their places.
use Rattle.std.proofs.Common.{ℕ, ◌+◌, ◌<◌, ◌≤◌, ◌≡◌, List, [], ◌∷◌, ◌++◌, length, take, drop, inl, inr, refl, ap, arith, length-append, length-drop}
use Rattle.word_grammar.specs.Lines.{OrNothing}
use Rattle.word_grammar.specs.Marks.{HasNo, IsWordEnd}
use Rattle.word_grammar.specs.Pairs.{SaysPair, SaysSome}
use Rattle.word_grammar.specs.Places.{IsBadAt, Stops}
use Rattle.word_grammar.proofs.Pairs.{AreWords, pair_good, pair_rest, pair_short, pair_word}
use Rattle.word_grammar.proofs.Places.{bad_same}

-- what is shown once for each kind of lines: they hold no mark, and a text of them is a line, the mark,
-- and nothing or such a text again
pub record AreLines {V : Type 0} (mark : ℕ) (Line : V → List ℕ → Type 0) (Lines : List ℕ → Type 0) : Type 0 where
  pub bare : (v : V) (word : List ℕ) → Line v word → HasNo mark word
  pub to : (text : List ℕ) → SaysPair mark Line (λ v. OrNothing Lines) text → Lines text
  pub from : (text : List ℕ) → Lines text → SaysPair mark Line (λ v. OrNothing Lines) text

-- a rest that isn't empty has the places of its lines
or_nothing_stops : (Kind : List ℕ → Type 0) (before behind : List ℕ) → 0 < length (before ++ behind) → Stops Kind before behind → Stops (OrNothing Kind) before behind
or_nothing_stops Kind before [] l s =
    λ h. elim h [ inl e ↦ omega (arith, ap length e, length-append before []) | inr k ↦ s k ]
or_nothing_stops Kind before (byte ∷ behind) l s =
    λ h. elim h.1 [
      | inl e ↦ omega (arith, ap length e, length-append (before ++ byte ∷ []) h.0, length-append before (byte ∷ []))
      | inr k ↦ s (h.0, k)
    ]

pub or_nothing_bad : (Kind : List ℕ → Type 0) (text : List ℕ) (at : ℕ) → 0 < length text → IsBadAt Kind text at → IsBadAt (OrNothing Kind) text at
or_nothing_bad Kind text at l h = record {
  before = h.before;
  behind = h.behind;
  whole = h.whole;
  place = h.place;
  begins = (h.begins.0, inr h.begins.1);
  stops = or_nothing_stops Kind h.before h.behind (omega (arith, ap length h.whole)) h.stops;
}

module _ {V : Type 0} (mark : ℕ) (Line : V → List ℕ → Type 0) (Lines : List ℕ → Type 0) (are : AreLines mark Line Lines) where
  line_words : AreWords mark Line (λ v. OrNothing Lines)
  line_words = record {
    bare = are.bare;
    same = λ u v word p q rest h. h;
    some = λ v word h. ([], inl refl);
  }

  of_pair : (text : List ℕ) (at : ℕ) → IsBadAt (SaysPair mark Line (λ v. OrNothing Lines)) text at → IsBadAt Lines text at
  of_pair text at h = bad_same (SaysPair mark Line (λ v. OrNothing Lines)) Lines text at are.to are.from h

  -- the place of a bad line is that of the text
  pub line_bad : (text : List ℕ) (end at : ℕ) → IsWordEnd mark text end → IsBadAt (SaysSome Line) (take end text) at → IsBadAt Lines text at
  line_bad text end at w h = of_pair text at (pair_word mark Line (λ v. OrNothing Lines) line_words text end at w h)

  -- a good line with no mark behind it is bad at its end
  pub line_short : (text : List ℕ) (end : ℕ) (v : V) → IsWordEnd mark text end → length text ≤ end → Line v (take end text) → IsBadAt Lines text end
  line_short text end v w l says = of_pair text end (pair_short mark Line (λ v. OrNothing Lines) line_words text end v w l says)

  -- a good line and the mark, with nothing behind, are a good text
  pub line_last : (text : List ℕ) (end : ℕ) (v : V) → IsWordEnd mark text end → end < length text → Line v (take end text) → drop (end + 1) text ≡ [] → Lines text
  line_last text end v w l says none = are.to text (pair_good mark Line (λ v. OrNothing Lines) line_words text end v w l says (inl none))

  -- the lines behind decide
  pub line_rest : (text : List ℕ) (end at : ℕ) (v : V) → IsWordEnd mark text end → end + 1 < length text → Line v (take end text) → IsBadAt Lines (drop (end + 1) text) at → IsBadAt Lines text (end + 1 + at)
  line_rest text end at v w l says h =
      of_pair text (end + 1 + at) (pair_rest mark Line (λ v. OrNothing Lines) line_words text end at v w (omega arith) says
      (or_nothing_bad Lines (drop (end + 1) text) at (omega (arith, length-drop (end + 1) text)) h))

  pub line_good : (text : List ℕ) (end : ℕ) (v : V) → IsWordEnd mark text end → end < length text → Line v (take end text) → Lines (drop (end + 1) text) → Lines text
  line_good text end v w l says h = are.to text (pair_good mark Line (λ v. OrNothing Lines) line_words text end v w l says (inr h))
