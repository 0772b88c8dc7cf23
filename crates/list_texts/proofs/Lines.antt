-- Lines by their words: their places.
use Rattle.std.proofs.Common.{ℕ, ◌+◌, ◌<◌, ◌≡◌, List, ◌∷◌, ◌++◌, length, take, drop, inl, refl, sym, ap, ◌∙◌, subst, arith}
use Rattle.std.proofs.lemmas.List.{drop-drop, length-drop}
use Rattle.std.specs.Fmt.{decimal}
use Rattle.hex.specs.Hex.{encode_lower}
use Rattle.list_texts.specs.Lists.{IsLine, SaysLine}
use Rattle.list_texts.specs.Words.{AreDigits, IsGapped, IsSeeded, SaysGapped, SaysHead, SaysOctets, SaysRate, SaysSeeded}
use Rattle.list_texts.specs.declared.Entry.{Entry}
use Rattle.list_texts.proofs.HexDigits.{some_digits}
use Rattle.list_texts.proofs.Rates.{rate_bare}
use Rattle.rate_table.specs.declared.Rate.{Rate}
use Rattle.rate_table.specs.Table.{row_of}
use Rattle.word_grammar.specs.Marks.{HasNo, IsWordEnd}
use Rattle.word_grammar.specs.Numbers.{SaysNumber}
use Rattle.word_grammar.specs.Pairs.{SaysPair}
use Rattle.word_grammar.specs.Places.{IsBadAt}
use Rattle.word_grammar.proofs.Digits.{number_bare}
use Rattle.word_grammar.proofs.Marks.{joined, whole_at}
use Rattle.word_grammar.proofs.Pairs.{AreWords}
use Rattle.word_grammar.proofs.Places.{bad_same}

-- a gap and digits
pub gap_words : AreWords 32 (SaysNumber 16 1048576) (λ _. AreDigits)
gap_words = record {
  bare = λ v word says. number_bare 32 16 1048576 v word (inl (omega arith)) (omega arith) says;
  same = λ u v word p q rest h. h;
  some = λ v word h. some_digits;
}

some_gapped : (rest : List ℕ) × IsGapped rest
some_gapped = (
  decimal 16 ++ 32 ∷ some_digits.0,
  record {
    value = 16;
    word = decimal 16;
    rest = some_digits.0;
    whole = refl;
    says = record { from = omega arith; up_to = omega arith; is = refl };
    behind = some_digits.1;
  },
)

-- a seed and what stands behind it
pub seed_words : AreWords 32 (SaysNumber 1 127) (λ _. IsGapped)
seed_words = record {
  bare = λ v word says. number_bare 32 1 127 v word (inl (omega arith)) (omega arith) says;
  same = λ u v word p q rest h. h;
  some = λ v word h. some_gapped;
}

some_seeded : (rest : List ℕ) × IsSeeded rest
some_seeded = (
  decimal 1 ++ 32 ∷ some_gapped.0,
  record {
    value = 1;
    word = decimal 1;
    rest = some_gapped.0;
    whole = refl;
    says = record { from = omega arith; up_to = omega arith; is = refl };
    behind = some_gapped.1;
  },
)

-- a rate and what stands behind it
pub rate_words : AreWords 32 SaysRate (λ _. IsSeeded)
rate_words = record {
  bare = λ rate word says. subst (HasNo 32) (sym says) (rate_bare 32 rate (omega arith));
  same = λ u v word p q rest h. h;
  some = λ rate word h. some_seeded;
}

-- a line is its words
pub line_of_pair : (text : List ℕ) → SaysPair 32 SaysRate (λ _. IsSeeded) text → IsLine text
line_of_pair text h =
    let seeded : IsSeeded h.rest = h.behind in
    let gapped : IsGapped seeded.rest = seeded.behind in
    let psdu : List ℕ = gapped.behind.0 in
    let octets : SaysOctets psdu gapped.rest = gapped.behind.1 in
    let last : seeded.rest ≡ decimal gapped.value ++ 32 ∷ encode_lower psdu =
    gapped.whole ∙ joined gapped.word (decimal gapped.value) gapped.rest (encode_lower psdu) gapped.says.is octets.is in
    let more : h.rest ≡ decimal seeded.value ++ 32 ∷ (decimal gapped.value ++ 32 ∷ encode_lower psdu) =
    seeded.whole ∙ joined seeded.word (decimal seeded.value) seeded.rest (decimal gapped.value ++ 32 ∷ encode_lower psdu) seeded.says.is last in (
      record { rate = h.value; seed = seeded.value; gap = gapped.value; psdu = psdu },
      record {
        in_range = record {
          seed = (seeded.says.from, seeded.says.up_to);
          least_gap = gapped.says.from;
          most_gap = gapped.says.up_to;
          long = octets.long;
          octets = octets.octets_are;
        };
        is = h.whole ∙ joined h.word (decimal (row_of h.value).mbps) h.rest (decimal seeded.value ++ 32 ∷ (decimal gapped.value ++ 32 ∷ encode_lower psdu)) h.says more;
      },
    )

pair_of_line : (text : List ℕ) → IsLine text → SaysPair 32 SaysRate (λ _. IsSeeded) text
pair_of_line text h =
    let entry : Entry = h.0 in
    let says : SaysLine entry text = h.1 in
    let gapped : IsGapped (decimal entry.gap ++ 32 ∷ encode_lower entry.psdu) = record {
      value = entry.gap;
      word = decimal entry.gap;
      rest = encode_lower entry.psdu;
      whole = refl;
      says = record { from = says.in_range.least_gap; up_to = says.in_range.most_gap; is = refl };
      behind = (entry.psdu, record { long = says.in_range.long; octets_are = says.in_range.octets; is = refl });
    } in
    let seeded : IsSeeded (decimal entry.seed ++ 32 ∷ (decimal entry.gap ++ 32 ∷ encode_lower entry.psdu)) = record {
      value = entry.seed;
      word = decimal entry.seed;
      rest = decimal entry.gap ++ 32 ∷ encode_lower entry.psdu;
      whole = refl;
      says = record { from = says.in_range.seed.0; up_to = says.in_range.seed.1; is = refl };
      behind = gapped;
    } in
    record {
      value = entry.rate;
      word = decimal (row_of entry.rate).mbps;
      rest = decimal entry.seed ++ 32 ∷ (decimal entry.gap ++ 32 ∷ encode_lower entry.psdu);
      whole = says.is;
      says = refl;
      behind = seeded;
    }

-- .. and has their bad place
pub bad_line : (text : List ℕ) (at : ℕ) → IsBadAt (SaysPair 32 SaysRate (λ _. IsSeeded)) text at → IsBadAt IsLine text at
bad_line text at bad = bad_same (SaysPair 32 SaysRate (λ _. IsSeeded)) IsLine text at line_of_pair pair_of_line bad

-- what words say in front of their digits
pub says_seeded : (text : List ℕ) (end seed gap digits : ℕ) → IsWordEnd 32 text end → end < length text → SaysNumber 1 127 seed (take end text) → SaysGapped gap digits (drop (end + 1) text) → SaysSeeded seed gap (end + 1 + digits) text
says_seeded text end seed gap digits w l says h =
    let behind : drop digits (drop (end + 1) text) ≡ drop (end + 1 + digits) text = drop-drop digits (end + 1) text in
    record {
      is_seed = (says.from, says.up_to);
      least_gap = h.least_gap;
      most_gap = h.most_gap;
      within = omega (arith, h.within, length-drop (end + 1) text);
      are = subst AreDigits behind h.are;
      is = whole_at 32 text end w l ∙ joined (take end text) (decimal seed) (drop (end + 1) text) (decimal gap ++ 32 ∷ drop (end + 1 + digits) text) says.is (h.is ∙ ap (λ x. decimal gap ++ 32 ∷ x) behind);
    }

pub says_head : (text : List ℕ) (end : ℕ) (rate : Rate) (seed gap digits : ℕ) → IsWordEnd 32 text end → end < length text → SaysRate rate (take end text) → SaysSeeded seed gap digits (drop (end + 1) text) → SaysHead (record { rate = rate; seed = seed; gap = gap; digits = end + 1 + digits }) text
says_head text end rate seed gap digits w l says h =
    let behind : drop digits (drop (end + 1) text) ≡ drop (end + 1 + digits) text = drop-drop digits (end + 1) text in
    record {
      is_seed = h.is_seed;
      least_gap = h.least_gap;
      most_gap = h.most_gap;
      within = omega (arith, h.within, length-drop (end + 1) text);
      are = subst AreDigits behind h.are;
      is = whole_at 32 text end w l ∙ joined (take end text) (decimal (row_of rate).mbps) (drop (end + 1) text) (decimal seed ++ 32 ∷ (decimal gap ++ 32 ∷ drop (end + 1 + digits) text)) says (h.is ∙ ap (λ x. decimal seed ++ 32 ∷ (decimal gap ++ 32 ∷ x)) behind);
    }
