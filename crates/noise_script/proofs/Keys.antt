-- The keys of items, and the words behind them: their places.
use Rattle.std.proofs.Common.{ℕ, ◌-◌, ◌^◌, ◌<◌, ◌≡◌, cond, nat_eq, List, ◌∷◌, ◌++◌, get_or, pos, inl, inr, refl, sym, ap, ◌∙◌, subst, arith}
use Rattle.std.proofs.lemmas.Int.{ints}
use Rattle.std.specs.Fmt.{decimal, signed_decimal}
use Rattle.noise_script.specs.Keys.{AreComponents, AreTwo, IsBehind, IsKey, SaysKey, key_name, key_names}
use Rattle.noise_script.specs.declared.reading.Key.{Key}
use Rattle.noise_script.specs.declared.reading.Key.TheVariants.{Lead, Trail, Uniform, Spike, Cut}
use Rattle.word_grammar.specs.Marks.{HasNo}
use Rattle.word_grammar.specs.Names.{IsOneOf, most_shared}
use Rattle.word_grammar.specs.Numbers.{IsNumber, SaysNumber}
use Rattle.word_grammar.specs.Places.{IsBadAt}
use Rattle.word_grammar.specs.Signs.{IsSigned, SaysSigned}
use Rattle.word_grammar.proofs.Digits.{number_bare}
use Rattle.word_grammar.proofs.Names.{bad_name}
use Rattle.word_grammar.proofs.Pairs.{AreWords}
use Rattle.word_grammar.proofs.Places.{bad_same}
use Rattle.word_grammar.proofs.Signs.{signed_bare}

-- the number 0, where the range has it
pub says_zero : (most : ℕ) → SaysNumber 0 most 0 (decimal 0)
says_zero most = record { from = omega arith; up_to = omega arith; is = refl }

pub says_signed_zero : SaysSigned 32768 32767 (pos 0) (signed_decimal (pos 0))
says_signed_zero = record { from = omega (arith, ints); up_to = omega (arith, ints); is = refl }

-- two numbers
pub two_words : (first second : ℕ) → first < 2 ^ 64 → AreWords 32 (SaysNumber 0 first) (λ _. IsNumber 0 second)
two_words first second b = record {
  bare = λ v word says. number_bare 32 0 first v word (inl (omega arith)) b says;
  same = λ u v word p q rest h. h;
  some = λ v word h. (decimal 0, (0, says_zero second));
}

-- the components of a sample
pub component_words : AreWords 32 (SaysSigned 32768 32767) (λ _. IsSigned 32768 32767)
component_words = record {
  bare = λ v word says. signed_bare 32 32768 32767 v word (inl (omega arith)) (λ e. absurd (omega (arith, e))) (omega arith) (omega arith) says;
  same = λ u v word p q rest h. h;
  some = λ v word h. (signed_decimal (pos 0), (pos 0, says_signed_zero));
}

some_components : AreComponents (signed_decimal (pos 0) ++ 32 ∷ signed_decimal (pos 0))
some_components = record {
  value = pos 0;
  word = signed_decimal (pos 0);
  rest = signed_decimal (pos 0);
  whole = refl;
  says = says_signed_zero;
  behind = (pos 0, says_signed_zero);
}

-- a place and the components of a sample
pub spike_words : AreWords 32 (SaysNumber 0 33554432) (λ _. AreComponents)
spike_words = record {
  bare = λ v word says. number_bare 32 0 33554432 v word (inl (omega arith)) (omega arith) says;
  same = λ u v word p q rest h. h;
  some = λ v word h. (signed_decimal (pos 0) ++ 32 ∷ signed_decimal (pos 0), some_components);
}

some_two : (first second : ℕ) → AreTwo first second (decimal 0 ++ 32 ∷ decimal 0)
some_two first second = record {
  value = 0;
  word = decimal 0;
  rest = decimal 0;
  whole = refl;
  says = says_zero first;
  behind = (0, says_zero second);
}

-- some words may stand behind each key
some_behind : (key : Key) → (words : List ℕ) × IsBehind key words
some_behind Lead = (decimal 0, (0, says_zero 1048576))
some_behind Trail = (decimal 0, (0, says_zero 1048576))
some_behind Uniform = (decimal 0 ++ 32 ∷ decimal 0, some_two 32767 (2 ^ 64 - 1))
some_behind Spike = (
  decimal 0 ++ 32 ∷ (signed_decimal (pos 0) ++ 32 ∷ signed_decimal (pos 0)),
  record {
    value = 0;
    word = decimal 0;
    rest = signed_decimal (pos 0) ++ 32 ∷ signed_decimal (pos 0);
    whole = refl;
    says = says_zero 33554432;
    behind = some_components;
  },
)
some_behind Cut = (decimal 0 ++ 32 ∷ decimal 0, some_two 33554432 33554432)

-- a mark that is no letter stands in no key
pub key_bare : (mark : ℕ) (key : Key) → mark < 97 → HasNo mark (key_name key)
key_bare mark Lead b = (λ e. omega (arith, e), (λ e. omega (arith, e), (λ e. omega (arith, e), (λ e. omega (arith, e), tt))))
key_bare mark Trail b = (λ e. omega (arith, e), (λ e. omega (arith, e), (λ e. omega (arith, e), (λ e. omega (arith, e), (λ e. omega (arith, e), tt)))))
key_bare mark Uniform b = (λ e. omega (arith, e), (λ e. omega (arith, e), (λ e. omega (arith, e), (λ e. omega (arith, e), (λ e. omega (arith, e), (λ e. omega (arith, e), (λ e. omega (arith, e), tt)))))))
key_bare mark Spike b = (λ e. omega (arith, e), (λ e. omega (arith, e), (λ e. omega (arith, e), (λ e. omega (arith, e), (λ e. omega (arith, e), tt)))))
key_bare mark Cut b = (λ e. omega (arith, e), (λ e. omega (arith, e), (λ e. omega (arith, e), tt)))

-- the key whose word begins with a letter
key_by_letter : ℕ → Key
key_by_letter letter =
    cond (nat_eq letter 108) Lead (cond (nat_eq letter 116) Trail (cond (nat_eq letter 117) Uniform (cond (nat_eq letter 115) Spike Cut)))

letter_back : (key : Key) → key_by_letter (get_or (key_name key) 0 0) ≡ key
unfolding key_by_letter
letter_back Lead = refl
letter_back Trail = refl
letter_back Uniform = refl
letter_back Spike = refl
letter_back Cut = refl

-- a word has one key
pub one_key : (u v : Key) → key_name u ≡ key_name v → u ≡ v
one_key u v e = sym (letter_back u) ∙ ap (λ word. key_by_letter (get_or word 0 0)) e ∙ letter_back v

-- a key and the words behind it
pub key_words : AreWords 32 SaysKey IsBehind
key_words = record {
  bare = λ key word says. subst (HasNo 32) (sym says) (key_bare 32 key (omega arith));
  same = λ u v word p q rest h. subst (λ key. IsBehind key rest) (one_key u v (sym p ∙ q)) h;
  some = λ key word h. some_behind key;
}

pub one_of_keys : (word : List ℕ) → IsOneOf key_names word → IsKey word
one_of_keys word h =
    elim h [
      | inl e ↦ (Lead, e)
      | inr h ↦ elim h [
        | inl e ↦ (Trail, e)
        | inr h ↦ elim h [
          | inl e ↦ (Uniform, e)
          | inr h ↦ elim h [ inl e ↦ (Spike, e) | inr h ↦ elim h [ inl e ↦ (Cut, e) | inr h ↦ absurd h ] ]
        ]
      ]
    ]

key_is_one : (key : Key) (word : List ℕ) → SaysKey key word → IsOneOf key_names word
key_is_one Lead word e = inl e
key_is_one Trail word e = inr (inl e)
key_is_one Uniform word e = inr (inr (inl e))
key_is_one Spike word e = inr (inr (inr (inl e)))
key_is_one Cut word e = inr (inr (inr (inr (inl e))))

-- a word that is no key is bad at the most bytes that it shares with one
pub bad_key : (word : List ℕ) (at : ℕ) → IsBadAt (IsOneOf key_names) word at → IsBadAt IsKey word at
bad_key word at bad = bad_same (IsOneOf key_names) IsKey word at one_of_keys (λ w h. key_is_one h.0 w h.1) bad

pub no_key : (word : List ℕ) (at : ℕ) → at ≡ most_shared key_names word → ¬ IsOneOf key_names word → IsBadAt IsKey word at
no_key word at e none = bad_key word at (subst (IsBadAt (IsOneOf key_names) word) (sym e) (bad_name key_names word (omega arith) none))
