-- Items by their keys and the words behind them.
use Rattle.std.proofs.Common.{ℕ, ◌-◌, ◌^◌, ◌≤◌, ◌≡◌, ◌≢◌, List, ◌∷◌, ◌++◌, ℤ, inr, refl, sym, ap, ◌∙◌, subst, arith, FitsSigned}
use Rattle.std.proofs.lemmas.Int.{ints}
use Rattle.std.specs.Fmt.{decimal, signed_decimal}
use Rattle.std.specs.Int.{w16}
use Rattle.noise_script.specs.Items.{IsInRange, IsItem, SaysItem, item_text}
use Rattle.noise_script.specs.Keys.{AreComponents, AreTwo, IsBehind, SaysBehind, SaysKey, SaysTwo, key_name, key_of, words_behind}
use Rattle.noise_script.specs.declared.Item.{Item}
use Rattle.noise_script.specs.declared.Item.TheVariants as item
use Rattle.noise_script.specs.declared.reading.Key.{Key}
use Rattle.noise_script.specs.declared.reading.Key.TheVariants.{Lead, Trail, Uniform, Spike, Cut}
use Rattle.noise_script.proofs.Keys.{key_bare}
use Rattle.word_grammar.specs.Marks.{HasNo}
use Rattle.word_grammar.specs.Pairs.{SaysPair}
use Rattle.word_grammar.specs.Places.{IsBadAt}
use Rattle.word_grammar.specs.Signs.{SaysSigned}
use Rattle.word_grammar.proofs.Digits.{digits_bare}
use Rattle.word_grammar.proofs.Marks.{bare_append, joined}
use Rattle.word_grammar.proofs.Places.{bad_same}
use Rattle.word_grammar.proofs.Signs.{signed_bare}

-- components in 16 bits are those of the range
pub fits : (z : ℤ) (word : List ℕ) → SaysSigned 32768 32767 z word → FitsSigned w16 z
fits z word says = omega (arith, ints, says.from, says.up_to)

pub says_component : (z : ℤ) → FitsSigned w16 z → SaysSigned 32768 32767 z (signed_decimal z)
says_component z h = record { from = omega (arith, ints, h); up_to = omega (arith, ints, h); is = refl }

-- what pairs of words say
pub says_two : (first second : ℕ) (text : List ℕ) → AreTwo first second text → (a b : ℕ) × SaysTwo first second a b text
says_two first second text h = (
  h.value,
  h.behind.0,
  record {
    a_within = h.says.up_to;
    b_within = h.behind.1.up_to;
    is = h.whole ∙ joined h.word (decimal h.value) h.rest (decimal h.behind.0) h.says.is h.behind.1.is;
  },
)

-- the text of an item
pub item_parts : (item : Item) → item_text item ≡ key_name (key_of item) ++ 32 ∷ words_behind item
item_parts (item.Lead count) = refl
item_parts (item.Trail count) = refl
item_parts (item.Uniform bound seed) = refl
item_parts (item.Spike at i q) = refl
item_parts (item.Cut at count) = refl

-- a key and the words behind it make an item
pub says_item : (key : Key) (item : Item) (word rest : List ℕ) → SaysKey key word → SaysBehind key item rest → SaysItem item (word ++ 32 ∷ rest)
says_item key item word rest p h = record {
  in_range = h.in_range;
  is = joined word (key_name (key_of item)) rest (words_behind item) (p ∙ ap key_name h.of) h.is ∙ sym (item_parts item);
}

item_behind : (key : Key) (words : List ℕ) → IsBehind key words → (item : Item) × SaysBehind key item words
item_behind Lead words h = (item.Lead h.0, record { of = refl; in_range = h.1.up_to; is = h.1.is })
item_behind Trail words h = (item.Trail h.0, record { of = refl; in_range = h.1.up_to; is = h.1.is })
item_behind Uniform words h =
    let says = says_two 32767 (2 ^ 64 - 1) words h in
    (item.Uniform says.0 says.1, record { of = refl; in_range = (says.2.a_within, omega (arith, says.2.b_within)); is = says.2.is })
item_behind Spike words h =
    let i = h.behind.value in
    let q = h.behind.behind.0 in
    let more : h.rest ≡ signed_decimal i ++ 32 ∷ signed_decimal q =
    h.behind.whole ∙ joined h.behind.word (signed_decimal i) h.behind.rest (signed_decimal q) h.behind.says.is h.behind.behind.1.is in (
      item.Spike h.value i q,
      record {
        of = refl;
        in_range = (h.says.up_to, fits i _ h.behind.says, fits q _ h.behind.behind.1);
        is = h.whole ∙ joined h.word (decimal h.value) h.rest (signed_decimal i ++ 32 ∷ signed_decimal q) h.says.is more;
      },
    )
item_behind Cut words h =
    let says = says_two 33554432 33554432 words h in
    (item.Cut says.0 says.1, record { of = refl; in_range = (says.2.a_within, says.2.b_within); is = says.2.is })

are_two : (first second a b : ℕ) → a ≤ first → b ≤ second → AreTwo first second (decimal a ++ 32 ∷ decimal b)
are_two first second a b p q = record {
  value = a;
  word = decimal a;
  rest = decimal b;
  whole = refl;
  says = record { from = omega arith; up_to = p; is = refl };
  behind = (b, record { from = omega arith; up_to = q; is = refl });
}

are_components : (i q : ℤ) → FitsSigned w16 i → FitsSigned w16 q → AreComponents (signed_decimal i ++ 32 ∷ signed_decimal q)
are_components i q a b = record {
  value = i;
  word = signed_decimal i;
  rest = signed_decimal q;
  whole = refl;
  says = says_component i a;
  behind = (q, says_component q b);
}

behind_item : (item : Item) → IsInRange item → IsBehind (key_of item) (words_behind item)
behind_item (item.Lead count) h = (count, record { from = omega arith; up_to = h; is = refl })
behind_item (item.Trail count) h = (count, record { from = omega arith; up_to = h; is = refl })
behind_item (item.Uniform bound seed) h = are_two 32767 (2 ^ 64 - 1) bound seed h.0 (omega (arith, h.1))
behind_item (item.Spike at i q) h = record {
  value = at;
  word = decimal at;
  rest = signed_decimal i ++ 32 ∷ signed_decimal q;
  whole = refl;
  says = record { from = omega arith; up_to = h.0; is = refl };
  behind = are_components i q h.1 h.2;
}
behind_item (item.Cut at count) h = are_two 33554432 33554432 at count h.0 h.1

-- an item is a key and the words behind it
pub item_of_pair : (text : List ℕ) → SaysPair 32 SaysKey IsBehind text → IsItem text
item_of_pair text h =
    let behind = item_behind h.value h.rest h.behind in
    (behind.0, subst (SaysItem behind.0) (sym h.whole) (says_item h.value behind.0 h.word h.rest h.says behind.1))

pub pair_of_item : (text : List ℕ) → IsItem text → SaysPair 32 SaysKey IsBehind text
pair_of_item text h = record {
  value = key_of h.0;
  word = key_name (key_of h.0);
  rest = words_behind h.0;
  whole = h.1.is ∙ item_parts h.0;
  says = refl;
  behind = behind_item h.0 h.1.in_range;
}

pub bad_item : (text : List ℕ) (at : ℕ) → IsBadAt (SaysPair 32 SaysKey IsBehind) text at → IsBadAt IsItem text at
bad_item text at bad = bad_same (SaysPair 32 SaysKey IsBehind) IsItem text at item_of_pair pair_of_item bad

-- a mark that stands in no word stands in no item
pair_bare : (mark : ℕ) (a b : List ℕ) → mark ≢ 32 → HasNo mark a → HasNo mark b → HasNo mark (a ++ 32 ∷ b)
pair_bare mark a b other p q = bare_append mark a (32 ∷ b) p (λ e. other (sym e), q)

component_bare : (z : ℤ) → FitsSigned w16 z → HasNo 59 (signed_decimal z)
component_bare z h = signed_bare 59 32768 32767 z (signed_decimal z) (inr (omega arith)) (λ e. omega (arith, e)) (omega arith) (omega arith) (says_component z h)

words_bare : (item : Item) → IsInRange item → HasNo 59 (words_behind item)
words_bare (item.Lead count) h = digits_bare 59 count (inr (omega arith)) (omega (arith, h))
words_bare (item.Trail count) h = digits_bare 59 count (inr (omega arith)) (omega (arith, h))
words_bare (item.Uniform bound seed) h =
    pair_bare 59 (decimal bound) (decimal seed) (λ e. omega (arith, e)) (digits_bare 59 bound (inr (omega arith)) (omega (arith, h.0))) (digits_bare 59 seed (inr (omega arith)) (omega (arith, h.1)))
words_bare (item.Spike at i q) h =
    pair_bare 59 (decimal at) (signed_decimal i ++ 32 ∷ signed_decimal q) (λ e. omega (arith, e)) (digits_bare 59 at (inr (omega arith)) (omega (arith, h.0)))
    (pair_bare 59 (signed_decimal i) (signed_decimal q) (λ e. omega (arith, e)) (component_bare i h.1) (component_bare q h.2))
words_bare (item.Cut at count) h =
    pair_bare 59 (decimal at) (decimal count) (λ e. omega (arith, e)) (digits_bare 59 at (inr (omega arith)) (omega (arith, h.0))) (digits_bare 59 count (inr (omega arith)) (omega (arith, h.1)))

pub item_bare : (item : Item) (word : List ℕ) → SaysItem item word → HasNo 59 word
item_bare item word says =
    subst (HasNo 59) (sym (says.is ∙ item_parts item))
    (pair_bare 59 (key_name (key_of item)) (words_behind item) (λ e. omega (arith, e)) (key_bare 59 (key_of item) (omega arith)) (words_bare item says.in_range))
