-- Lists read line by line: their places.
use Rattle.std.proofs.Common.{ℕ, ◌+◌, ◌<◌, ◌≤◌, ◌≡◌, ◌⊎◌, inl, inr, List, [], ◌∷◌, ◌++◌, All, length, take, drop, refl, sym, ap, ◌∙◌, subst, arith, append_assoc, append-nil, length-append}
use Rattle.std.proofs.lemmas.List.{drop-drop, drop_all, drop_at, length-take-le, take_at}
use Rattle.std.proofs.lemmas.List.Concat.{flat_map-append}
use Rattle.std.proofs.lemmas.List.Elements.{All-head, All-nil, All-push, All-tail}
use Rattle.list_texts.specs.Lists.{IsInRange, IsList, SaysLine, line_text, list_text}
use Rattle.list_texts.specs.declared.Entry.{Entry}
use Rattle.list_texts.proofs.Lists.{lines, text_bare, text_of_more}
use Rattle.send_lists.specs.Reading.{AddsLine, AreRead}
use Rattle.send_lists.specs.Sent.{most_samples, samples_of_list}
use Rattle.send_lists.proofs.Samples.{count_more, no_samples}
use Rattle.word_grammar.specs.Marks.{HasNo, IsWordEnd}
use Rattle.word_grammar.specs.Places.{IsBadAt}
use Rattle.word_grammar.proofs.Lines.{line_rest}
use Rattle.word_grammar.proofs.Marks.{whole_at}

-- a text is read up to a place: entries stand there, so many samples are counted, and the entries are kept where they
-- are not too many
pub record AreReadUpTo (text : List ℕ) (from : ℕ) (kept : List Entry) (count : ℕ) : Type 0 where
  pub entries : List Entry
  pub in_range : All IsInRange entries
  pub place : from ≡ length (list_text entries)
  pub whole : text ≡ list_text entries ++ drop from text
  pub counted : count ≡ length (samples_of_list entries)
  pub kept_are : count ≤ most_samples → kept ≡ entries

-- a word ends before a mark
word_end_at : (mark : ℕ) (word rest : List ℕ) → HasNo mark word → IsWordEnd mark (word ++ mark ∷ rest) (length word)
word_end_at mark word rest bare =
    let text : List ℕ = word ++ mark ∷ rest in
    let behind : drop (length word) text ≡ mark ∷ rest = drop_at word (mark ∷ rest) (length word) refl in
    record {
      within = omega (arith, length-append word (mark ∷ rest));
      bare = subst (HasNo mark) (sym (take_at word (mark ∷ rest) (length word) refl)) bare;
      behind = inr (behind ∙ ap (λ x. mark ∷ x) (sym (ap (drop 1) behind) ∙ drop-drop 1 (length word) text));
    }

-- the place of lines behind a line
bad_behind_line : (entry : Entry) (rest : List ℕ) (at : ℕ) → IsInRange entry → 0 < length rest → IsBadAt IsList rest at → IsBadAt IsList (line_text entry ++ 10 ∷ rest) (length (line_text entry) + 1 + at)
bad_behind_line entry rest at h some bad =
    let word : List ℕ = line_text entry in
    let text : List ℕ = word ++ 10 ∷ rest in
    let bare : HasNo 10 word = text_bare entry h in
    let w : IsWordEnd 10 text (length word) = word_end_at 10 word rest bare in
    let front : take (length word) text ≡ word = take_at word (10 ∷ rest) (length word) refl in
    let says : SaysLine entry (take (length word) text) = record { in_range = h; is = front } in
    let behind : drop (length word + 1) text ≡ rest = sym (drop-drop 1 (length word) text) ∙ ap (drop 1) (drop_at word (10 ∷ rest) (length word) refl) in
    line_rest 10 SaysLine IsList lines text (length word) at entry w (omega (arith, length-append word (10 ∷ rest))) says (subst (λ r. IsBadAt IsList r at) (sym behind) bad)

-- .. and behind those of entries
bad_behind_lines : (entries : List Entry) (rest : List ℕ) (at : ℕ) → All IsInRange entries → (length (list_text entries) ≡ 0) ⊎ (0 < length rest) → IsBadAt IsList rest at → IsBadAt IsList (list_text entries ++ rest) (length (list_text entries) + at)
bad_behind_lines [] rest at h some bad =
    let same : at ≡ 0 + at = omega arith in
    subst (λ n. IsBadAt IsList rest n) same bad
bad_behind_lines (entry ∷ entries) rest at h some bad =
    let word : List ℕ = line_text entry in
    let others : List ℕ = list_text entries in
    let whole : list_text (entry ∷ entries) ≡ word ++ 10 ∷ others = text_of_more entry entries in
    let size : length (list_text (entry ∷ entries)) ≡ length word + 1 + length others = omega (arith, ap length whole, length-append word (10 ∷ others)) in
    let more : 0 < length rest = elim some [ inl none ↦ absurd (omega (arith, none, size)) | inr l ↦ l ] in
    let behind : IsBadAt IsList (others ++ rest) (length others + at) = bad_behind_lines entries rest at (All-tail IsInRange entry entries h) (inr more) bad in
    let first = bad_behind_line entry (others ++ rest) (length others + at) (All-head IsInRange entry entries h) (omega (arith, length-append others rest)) behind in
    let place : length word + 1 + (length others + at) ≡ length (list_text (entry ∷ entries)) + at = omega (arith, size) in
    subst (λ n. IsBadAt IsList (list_text (entry ∷ entries) ++ rest) n) place
    (subst (λ t. IsBadAt IsList t (length word + 1 + (length others + at))) (sym (ap (λ t. t ++ rest) whole ∙ append_assoc word (10 ∷ others) rest)) first)

pub bad_from : (text : List ℕ) (from : ℕ) (kept : List Entry) (count at : ℕ) → AreReadUpTo text from kept count → (from ≡ 0) ⊎ (from < length text) → IsBadAt IsList (drop from text) at → IsBadAt IsList text (from + at)
bad_from text from kept count at r some bad =
    let front : List ℕ = list_text r.entries in
    let size : length text ≡ length front + length (drop from text) = ap length r.whole ∙ length-append front (drop from text) in
    let more : (length front ≡ 0) ⊎ (0 < length (drop from text)) = elim some [ inl none ↦ inl (omega (arith, none, r.place)) | inr l ↦ inr (omega (arith, l, r.place, size)) ] in
    subst (λ n. IsBadAt IsList text (n + at)) (sym r.place)
    (subst (λ t. IsBadAt IsList t (length front + at)) (sym r.whole) (bad_behind_lines r.entries (drop from text) at r.in_range more bad))

-- the first line of a text, once its entry is read
pub adds_line : (text : List ℕ) (end : ℕ) (entry : Entry) (before after : List Entry) (count more : ℕ) → IsWordEnd 10 text end → end < length text → SaysLine entry (take end text) → more ≡ count + length (samples_of_list (entry ∷ [])) → more ≤ count + 2097152 → (more ≤ most_samples → after ≡ before ++ entry ∷ []) → AddsLine text (end + 1) before count after more
adds_line text end entry before after count more w l says counted at_most kept = record {
  entry = entry;
  in_range = says.in_range;
  len_is = omega (arith, ap length says.is, length-take-le end text w.within);
  whole = whole_at 10 text end w l ∙ ap (λ x. x ++ 10 ∷ drop (end + 1) text) says.is;
  counted = counted;
  at_most = at_most;
  kept = kept;
}

pub line_within : (text : List ℕ) (len count more : ℕ) (before after : List Entry) → AddsLine text len before count after more → len ≤ length text
line_within text len count more before after a =
    omega (arith, ap length a.whole, length-append (line_text a.entry) (10 ∷ drop len text), a.len_is)

-- nothing is read yet
pub none_read : (text : List ℕ) → AreReadUpTo text 0 [] 0
none_read text = record {
  entries = [];
  in_range = All-nil IsInRange;
  place = refl;
  whole = refl;
  counted = sym (ap length no_samples);
  kept_are = λ few. refl;
}

-- one line more
pub line_read : (text : List ℕ) (from len count more : ℕ) (kept after : List Entry) → AreReadUpTo text from kept count → AddsLine (drop from text) len kept count after more → AreReadUpTo text (from + len) after more
line_read text from len count more kept after r a =
    let entries : List Entry = r.entries ++ a.entry ∷ [] in
    let line : List ℕ = line_text a.entry ++ 10 ∷ [] in
    let front : list_text entries ≡ list_text r.entries ++ line = flat_map-append (λ (entry : Entry). line_text entry ++ 10 ∷ []) r.entries (a.entry ∷ []) ∙ ap (λ t. list_text r.entries ++ t) (append-nil line) in
    let size : length (list_text entries) ≡ from + len = omega (arith, ap length front, length-append (list_text r.entries) line, length-append (line_text a.entry) (10 ∷ []), a.len_is, r.place) in
    let behind : drop len (drop from text) ≡ drop (from + len) text = drop-drop len from text in
    let joined : list_text r.entries ++ drop from text ≡ list_text entries ++ drop (from + len) text =
    ap (λ t. list_text r.entries ++ t) (a.whole ∙ sym (append_assoc (line_text a.entry) (10 ∷ []) (drop len (drop from text))) ∙ ap (λ t. line ++ t) behind)
    ∙ sym (append_assoc (list_text r.entries) line (drop (from + len) text)) ∙ ap (λ t. t ++ drop (from + len) text) (sym front) in
    record {
      entries = entries;
      in_range = All-push IsInRange r.entries a.entry r.in_range a.in_range;
      place = sym size;
      whole = r.whole ∙ joined;
      counted = a.counted ∙ ap (λ n. n + length (samples_of_list (a.entry ∷ []))) r.counted ∙ sym (count_more r.entries a.entry);
      kept_are = λ few. a.kept few ∙ ap (λ k. k ++ a.entry ∷ []) (r.kept_are (omega (arith, few, a.counted)));
    }

some_entries : (entries : List Entry) → 0 < length (list_text entries) → 1 ≤ length entries
some_entries [] l = absurd (omega (arith, l))
some_entries (entry ∷ entries) l = omega arith

-- all are read
pub all_read : (text : List ℕ) (from len count more : ℕ) (kept after : List Entry) → AreReadUpTo text from kept count → AddsLine (drop from text) len kept count after more → from + len ≡ length text → AreRead text after more
all_read text from len count more kept after r a e =
    let u : AreReadUpTo text (from + len) after more = line_read text from len count more kept after r a in
    record {
      entries = u.entries;
      says = record {
        some = some_entries u.entries (omega (arith, u.place, a.len_is));
        in_range = u.in_range;
        is = u.whole ∙ ap (λ t. list_text u.entries ++ t) (drop_all (from + len) text (omega (arith, e))) ∙ append-nil (list_text u.entries);
      };
      counted = u.counted;
      kept_are = u.kept_are;
    }
