-- A text says one list.
use Rattle.std.proofs.Common.{ℕ, ◌^◌, ◌<◌, ◌≡◌, List, [], ◌∷◌, ◌++◌, All, length, inl, inr, refl, sym, ap, ◌∙◌, arith, length-append}
use Rattle.std.specs.Fmt.{decimal}
use Rattle.std.proofs.lemmas.Bool.{cases_lt}
use Rattle.std.proofs.lemmas.Fmt.{decimal_injective}
use Rattle.std.proofs.lemmas.List.{get_or_past}
use Rattle.std.proofs.lemmas.List.Elements.{All-get_or, All-head, All-tail}
use Rattle.bit_lists.specs.Bits.{AreOctets, IsOctet}
use Rattle.hex.specs.Hex.{IsBytes, decode_of, encode_lower}
use Rattle.hex.proofs.HexLemmas.{decode_of-encode_lower, decode_of-same}
use Rattle.list_texts.specs.Lists.{IsInRange, SaysList, line_text, list_text}
use Rattle.list_texts.specs.declared.Entry.{Entry}
use Rattle.list_texts.proofs.Lists.{text_bare, text_of_more}
use Rattle.list_texts.proofs.Rates.{one_rate, rate_bare}
use Rattle.rate_table.specs.declared.Rate.{Rate}
use Rattle.rate_table.specs.Table.{row_of}
use Rattle.word_grammar.proofs.Digits.{no_space}
use Rattle.word_grammar.proofs.Marks.{seam}

-- octets are bytes, as `hex` says it
pub are_bytes : (octets : List ℕ) → AreOctets octets → IsBytes octets
are_bytes octets h k =
    elim (cases_lt k (length octets)) [
      | inl l ↦ All-get_or IsOctet octets k 0 l h
      | inr past ↦ let e = get_or_past octets k 0 past in omega (arith, e)
    ]

same_octets : (a b : List ℕ) → AreOctets a → AreOctets b → encode_lower a ≡ encode_lower b → a ≡ b
same_octets a b p q e =
    decode_of-same (encode_lower a) a b (decode_of-encode_lower a (are_bytes a p)) (ap decode_of e ∙ decode_of-encode_lower b (are_bytes b q))

abbrev entry_of : Rate → ℕ → ℕ → List ℕ → Entry
entry_of rate seed gap psdu = record { rate = rate; seed = seed; gap = gap; psdu = psdu }

same_entry : (a b : Entry) → IsInRange a → IsInRange b → line_text a ≡ line_text b → a ≡ b
same_entry a b p q e =
    let seed_a : a.seed < 2 ^ 64 = omega (arith, p.seed.1) in
    let seed_b : b.seed < 2 ^ 64 = omega (arith, q.seed.1) in
    let gap_a : a.gap < 2 ^ 64 = omega (arith, p.most_gap) in
    let gap_b : b.gap < 2 ^ 64 = omega (arith, q.most_gap) in
    let last_a : List ℕ = decimal a.gap ++ 32 ∷ encode_lower a.psdu in
    let last_b : List ℕ = decimal b.gap ++ 32 ∷ encode_lower b.psdu in
    let first = seam 32 (decimal (row_of a.rate).mbps) (decimal (row_of b.rate).mbps) (decimal a.seed ++ 32 ∷ last_a) (decimal b.seed ++ 32 ∷ last_b) (rate_bare 32 a.rate (omega arith)) (rate_bare 32 b.rate (omega arith)) e in
    let second = seam 32 (decimal a.seed) (decimal b.seed) last_a last_b (no_space a.seed seed_a) (no_space b.seed seed_b) first.1 in
    let third = seam 32 (decimal a.gap) (decimal b.gap) (encode_lower a.psdu) (encode_lower b.psdu) (no_space a.gap gap_a) (no_space b.gap gap_b) second.1 in
    let rate : a.rate ≡ b.rate = one_rate a.rate b.rate first.0 in
    let seed : a.seed ≡ b.seed = decimal_injective a.seed b.seed seed_a seed_b second.0 in
    let gap : a.gap ≡ b.gap = decimal_injective a.gap b.gap gap_a gap_b third.0 in
    let psdu : a.psdu ≡ b.psdu = same_octets a.psdu b.psdu p.octets q.octets third.1 in
    ap (λ (r : Rate). entry_of r a.seed a.gap a.psdu) rate ∙ ap (λ (s : ℕ). entry_of b.rate s a.gap a.psdu) seed
    ∙ ap (λ (g : ℕ). entry_of b.rate b.seed g a.psdu) gap ∙ ap (λ (o : List ℕ). entry_of b.rate b.seed b.gap o) psdu

same_entries : (a b : List Entry) → All IsInRange a → All IsInRange b → list_text a ≡ list_text b → a ≡ b
same_entries [] [] p q e = refl
same_entries [] (y ∷ b) p q e =
    absurd (omega (arith, ap length (e ∙ text_of_more y b), length-append (line_text y) (10 ∷ list_text b)))
same_entries (x ∷ a) [] p q e =
    absurd (omega (arith, ap length (sym e ∙ text_of_more x a), length-append (line_text x) (10 ∷ list_text a)))
same_entries (x ∷ a) (y ∷ b) p q e =
    let first : IsInRange x = All-head IsInRange x a p in
    let other : IsInRange y = All-head IsInRange y b q in
    let apart = seam 10 (line_text x) (line_text y) (list_text a) (list_text b) (text_bare x first) (text_bare y other) (sym (text_of_more x a) ∙ e ∙ text_of_more y b) in
    let same : x ≡ y = same_entry x y first other apart.0 in
    let more : a ≡ b = same_entries a b (All-tail IsInRange x a p) (All-tail IsInRange y b q) apart.1 in
    cc

pub one_list : (a b : List Entry) (text : List ℕ) → SaysList a text → SaysList b text → a ≡ b
one_list a b text p q = same_entries a b p.in_range q.in_range (sym p.is ∙ q.is)
