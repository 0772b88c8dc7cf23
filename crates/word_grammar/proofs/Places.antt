-- The place of a text that is refused.
use Rattle.std.proofs.Common.{ℕ, ◌+◌, ◌<◌, ◌≤◌, ◌≡◌, inl, inr, List, [], ◌∷◌, ◌++◌, length, take, drop, get_or, refl, sym, ap, ◌∙◌, subst, arith, append_assoc, append-nil, length-append}
use Rattle.std.proofs.lemmas.List.{drop_more, take-append-drop, take-append-le, take_at, length-take-le}
use Rattle.std.proofs.lemmas.Bool.{cases_order}
use Rattle.word_grammar.specs.Places.{Begins, HasNoPlace, HasOnePlace, IsBadAt, Stops}

-- a shorter front begins a text, too
pub begins_shorter : (Kind : List ℕ → Type 0) (a b : List ℕ) → Begins Kind (a ++ b) → Begins Kind a
begins_shorter Kind a b h = (b ++ h.0, subst Kind (append_assoc a b h.0) h.1)

-- a text of the kind begins one
pub begins_whole : (Kind : List ℕ → Type 0) (text : List ℕ) → Kind text → Begins Kind text
begins_whole Kind text h = ([], subst Kind (sym (append-nil text)) h)

-- where bytes stop, no longer front begins a text
stopped : (Kind : List ℕ → Type 0) (before behind longer rest : List ℕ) → length before < length longer → before ++ behind ≡ longer ++ rest → Stops Kind before behind → Begins Kind longer → ⊥
stopped Kind before [] longer rest l e s h = absurd (omega (arith, ap length e, length-append before [], length-append longer rest))
stopped Kind before (byte ∷ behind) longer rest l e s h =
    let front : List ℕ = before ++ byte ∷ [] in
    let n : ℕ = length front in
    let within : n ≤ length longer = omega (arith, length-append before (byte ∷ [])) in
    let same : take n longer ≡ front =
    sym (take-append-le n longer rest within) ∙ ap (take n) (sym e ∙ sym (append_assoc before (byte ∷ []) behind)) ∙ take_at front behind n refl in
    let whole : longer ≡ front ++ drop n longer = sym (take-append-drop n longer) ∙ ap (λ x. x ++ drop n longer) same in
    s (begins_shorter Kind front (drop n longer) (subst (Begins Kind) whole h))

-- a text has one bad place
pub one_place : (Kind : List ℕ → Type 0) → HasOnePlace Kind
one_place Kind text a b p q =
    elim (cases_order a b) [
      | inl e ↦ e
      | inr (inl l) ↦ absurd (stopped Kind p.before p.behind q.before q.behind (omega (arith, p.place, q.place)) (sym p.whole ∙ q.whole) p.stops q.begins)
      | inr (inr l) ↦ absurd (stopped Kind q.before q.behind p.before p.behind (omega (arith, p.place, q.place)) (sym q.whole ∙ p.whole) q.stops p.begins)
    ]

-- no text of the kind is one whose front stops
not_stopped : (Kind : List ℕ → Type 0) (before behind : List ℕ) → Kind (before ++ behind) → Stops Kind before behind → ⊥
not_stopped Kind before [] h s = s (subst Kind (append-nil before) h)
not_stopped Kind before (byte ∷ behind) h s = s (behind, subst Kind (sym (append_assoc before (byte ∷ []) behind)) h)

-- a text of the kind has none
pub none_bad : (Kind : List ℕ → Type 0) → HasNoPlace Kind
none_bad Kind text at h p = not_stopped Kind p.before p.behind (subst Kind p.whole h) p.stops

-- the same bytes stop for kinds with the same texts
stops_same : (K L : List ℕ → Type 0) (before behind : List ℕ) → ((s : List ℕ) → L s → K s) → Stops K before behind → Stops L before behind
stops_same K L before [] from s = λ h. s (from before h)
stops_same K L before (byte ∷ behind) from s = λ h. s (h.0, from _ h.1)

-- kinds with the same texts have the same places
pub bad_same : (K L : List ℕ → Type 0) (text : List ℕ) (at : ℕ) → ((s : List ℕ) → K s → L s) → ((s : List ℕ) → L s → K s) → IsBadAt K text at → IsBadAt L text at
bad_same K L text at to from p = record {
  before = p.before;
  behind = p.behind;
  whole = p.whole;
  place = p.place;
  begins = (p.begins.0, to _ p.begins.1);
  stops = stops_same K L p.before p.behind from p.stops;
}

-- bytes stop for the rests of a front as they do behind it
stops_behind : (Kind : List ℕ → Type 0) (front before behind : List ℕ) → Stops (λ s. Kind (front ++ s)) before behind → Stops Kind (front ++ before) behind
stops_behind Kind front before [] s = s
stops_behind Kind front before (byte ∷ behind) s =
    λ h. s (h.0, subst Kind (ap (λ x. x ++ h.0) (append_assoc front before (byte ∷ [])) ∙ append_assoc front (before ++ byte ∷ []) h.0) h.1)

-- a bad place of a rest, where the kind is that of the rests of a front, is one of the whole
pub bad_behind : (Kind : List ℕ → Type 0) (front rest : List ℕ) (at : ℕ) → IsBadAt (λ s. Kind (front ++ s)) rest at → IsBadAt Kind (front ++ rest) (length front + at)
bad_behind Kind front rest at p = record {
  before = front ++ p.before;
  behind = p.behind;
  whole = ap (λ x. front ++ x) p.whole ∙ sym (append_assoc front p.before p.behind);
  place = omega (arith, p.place, length-append front p.before);
  begins = (p.begins.0, subst Kind (sym (append_assoc front p.before p.begins.0)) p.begins.1);
  stops = stops_behind Kind front p.before p.behind p.stops;
}

-- a byte at which the bytes before begin a text, and with it none
pub bad_byte : (Kind : List ℕ → Type 0) (text : List ℕ) (at byte : ℕ) → at < length text → Begins Kind (take at text) → ¬ Begins Kind (take at text ++ get_or text at byte ∷ []) → IsBadAt Kind text at
bad_byte Kind text at byte l begins stops = record {
  before = take at text;
  behind = get_or text at byte ∷ drop (at + 1) text;
  whole = sym (take-append-drop at text) ∙ ap (λ x. take at text ++ x) (drop_more text at byte l);
  place = sym (length-take-le at text (omega arith));
  begins = begins;
  stops = stops;
}

-- a text that begins one and is none is bad at its length
pub bad_end : (Kind : List ℕ → Type 0) (text : List ℕ) → Begins Kind text → ¬ Kind text → IsBadAt Kind text (length text)
bad_end Kind text begins stops = record {
  before = text;
  behind = [];
  whole = sym (append-nil text);
  place = refl;
  begins = begins;
  stops = stops;
}

-- a bad place is no further on than the text's length
pub bad_within : (Kind : List ℕ → Type 0) (text : List ℕ) (at : ℕ) → IsBadAt Kind text at → at ≤ length text
bad_within Kind text at h = omega (arith, h.place, ap length h.whole, length-append h.before h.behind)
