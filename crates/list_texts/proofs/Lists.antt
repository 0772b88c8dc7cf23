-- Lists: lines with a newline behind each.
use Rattle.std.proofs.Common.{ℕ, ◌≡◌, ◌≢◌, List, [], ◌∷◌, ◌++◌, inl, inr, refl, sym, ap, ◌∙◌, subst, arith, append_assoc, append-nil}
use Rattle.std.specs.Fmt.{decimal}
use Rattle.std.proofs.lemmas.List.Concat.{flat_map-cons}
use Rattle.std.proofs.lemmas.List.Elements.{All-cons, All-head, All-nil, All-tail}
use Rattle.hex.specs.Hex.{encode_lower}
use Rattle.list_texts.specs.Lists.{IsInRange, IsList, SaysLine, SaysList, line_text, list_text}
use Rattle.list_texts.specs.declared.Entry.{Entry}
use Rattle.list_texts.proofs.HexDigits.{digits_bare}
use Rattle.list_texts.proofs.Rates.{rate_bare}
use Rattle.rate_table.specs.Table.{row_of}
use Rattle.word_grammar.specs.Lines.{OrNothing}
use Rattle.word_grammar.specs.Marks.{HasNo}
use Rattle.word_grammar.specs.Pairs.{SaysPair}
use Rattle.word_grammar.proofs.Digits as numbers
use Rattle.word_grammar.proofs.Lines.{AreLines}
use Rattle.word_grammar.proofs.Marks.{bare_append}

-- a line holds no newline
no_space : ◌≢◌ {A = ℕ} 32 10
no_space e = omega (arith, e)

word_bare : (word rest : List ℕ) → HasNo 10 word → HasNo 10 rest → HasNo 10 (word ++ 32 ∷ rest)
word_bare word rest p q = bare_append 10 word (32 ∷ rest) p (no_space, q)

pub text_bare : (entry : Entry) → IsInRange entry → HasNo 10 (line_text entry)
text_bare entry h =
    let octets : HasNo 10 (encode_lower entry.psdu) = digits_bare entry.psdu (encode_lower entry.psdu) (record { long = h.long; octets_are = h.octets; is = refl }) in
    let gap : HasNo 10 (decimal entry.gap) = numbers.digits_bare 10 entry.gap (inl (omega arith)) (omega (arith, h.most_gap)) in
    let seed : HasNo 10 (decimal entry.seed) = numbers.digits_bare 10 entry.seed (inl (omega arith)) (omega (arith, h.seed.1)) in
    let last = word_bare (decimal entry.gap) (encode_lower entry.psdu) gap octets in
    let more = word_bare (decimal entry.seed) (decimal entry.gap ++ 32 ∷ encode_lower entry.psdu) seed last in
    word_bare (decimal (row_of entry.rate).mbps) (decimal entry.seed ++ 32 ∷ (decimal entry.gap ++ 32 ∷ encode_lower entry.psdu)) (rate_bare 10 entry.rate (omega arith)) more

-- the text of a list is its first line, a newline, and that of the others
pub text_of_more : (entry : Entry) (entries : List Entry) → list_text (entry ∷ entries) ≡ line_text entry ++ 10 ∷ list_text entries
text_of_more entry entries =
    flat_map-cons (λ (entry : Entry). line_text entry ++ 10 ∷ []) entry entries ∙ append_assoc (line_text entry) (10 ∷ []) (list_text entries)

one_line : (entry : Entry) → list_text (entry ∷ []) ≡ line_text entry ++ 10 ∷ []
one_line entry = append-nil (line_text entry ++ 10 ∷ [])

pub more_lines : (entry : Entry) (entries : List Entry) (word rest : List ℕ) → SaysLine entry word → SaysList entries rest → SaysList (entry ∷ entries) (word ++ 10 ∷ rest)
more_lines entry entries word rest p h = record {
  some = omega arith;
  in_range = All-cons IsInRange entry entries p.in_range h.in_range;
  is = ap (λ x. x ++ 10 ∷ rest) p.is ∙ ap (λ x. line_text entry ++ 10 ∷ x) h.is ∙ sym (text_of_more entry entries);
}

last_line : (entry : Entry) (word : List ℕ) → SaysLine entry word → SaysList (entry ∷ []) (word ++ 10 ∷ [])
last_line entry word p = record {
  some = omega arith;
  in_range = All-cons IsInRange entry [] p.in_range (All-nil IsInRange);
  is = ap (λ x. x ++ 10 ∷ []) p.is ∙ sym (one_line entry);
}

to : (text : List ℕ) → SaysPair 10 SaysLine (λ _. OrNothing IsList) text → IsList text
to text p =
    elim p.behind [
      | inl none ↦ (p.value ∷ [], subst (SaysList (p.value ∷ [])) (sym (p.whole ∙ ap (λ x. p.word ++ 10 ∷ x) none)) (last_line p.value p.word p.says))
      | inr h ↦ (p.value ∷ h.0, subst (SaysList (p.value ∷ h.0)) (sym p.whole) (more_lines p.value h.0 p.word p.rest p.says h.1))
    ]

from : (entries : List Entry) (text : List ℕ) → SaysList entries text → SaysPair 10 SaysLine (λ _. OrNothing IsList) text
from [] text h = absurd (omega (arith, h.some))
from (entry ∷ []) text h = record {
  value = entry;
  word = line_text entry;
  rest = [];
  whole = h.is ∙ one_line entry;
  says = record { in_range = All-head IsInRange entry [] h.in_range; is = refl };
  behind = inl refl;
}
from (entry ∷ next ∷ entries) text h = record {
  value = entry;
  word = line_text entry;
  rest = list_text (next ∷ entries);
  whole = h.is ∙ text_of_more entry (next ∷ entries);
  says = record { in_range = All-head IsInRange entry (next ∷ entries) h.in_range; is = refl };
  behind = inr (next ∷ entries, record { some = omega arith; in_range = All-tail IsInRange entry (next ∷ entries) h.in_range; is = refl });
}

pub lines : AreLines 10 SaysLine IsList
lines = record {
  bare = λ entry word says. subst (HasNo 10) (sym says.is) (text_bare entry says.in_range);
  to = to;
  from = λ text h. from h.0 text h.1;
}
