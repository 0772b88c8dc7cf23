-- Each text is a script or has a bad place.
use Rattle.std.proofs.Common.{ℕ, ◌-◌, ◌^◌, ◌<◌, ◌≤◌, ◌⊎◌, inl, inr, arith}
use Rattle.std.proofs.lemmas.Bool.{cases_lt}
use Rattle.noise_script.specs.Items.{IsItem}
use Rattle.noise_script.specs.Keys.{AreComponents, AreTwo, IsBehind, IsKey, SaysKey, key_names}
use Rattle.noise_script.specs.Scripts.{IsScript}
use Rattle.noise_script.specs.declared.Item.{Item}
use Rattle.noise_script.specs.declared.reading.Key.{Key}
use Rattle.noise_script.specs.declared.reading.Key.TheVariants.{Lead, Trail, Uniform, Spike, Cut}
use Rattle.noise_script.proofs.Items.{bad_item, item_of_pair}
use Rattle.noise_script.proofs.Keys.{bad_key, component_words, key_words, one_of_keys, spike_words, two_words}
use Rattle.noise_script.proofs.Scripts.{IsCounted, MayGoOn, bad_counted, one_less, scripts}
use Rattle.word_grammar.specs.Numbers.{IsNumber, SaysNumber}
use Rattle.word_grammar.specs.Pairs.{SaysSome}
use Rattle.word_grammar.specs.Places.{IsDecided}
use Rattle.word_grammar.specs.Signs.{IsSigned, SaysSigned}
use Rattle.word_grammar.proofs.Decided.{decided_name, decided_number, decided_pair, decided_series, decided_signed}

number_decided : (most : ℕ) → most < 2 ^ 64 → IsDecided (IsNumber 0 most)
number_decided most b = decided_number 0 most b (omega arith) (inl (omega arith))

two_decided : (first second : ℕ) → first < 2 ^ 64 → second < 2 ^ 64 → IsDecided (AreTwo first second)
two_decided first second a b =
    decided_pair 32 (SaysNumber 0 first) (λ _. IsNumber 0 second) (two_words first second a) (number_decided first a) (λ v word h. number_decided second b)

component_decided : IsDecided (IsSigned 32768 32767)
component_decided = decided_signed 32768 32767 (omega arith) (omega arith)

components_decided : IsDecided AreComponents
components_decided = decided_pair 32 (SaysSigned 32768 32767) (λ _. IsSigned 32768 32767) component_words component_decided (λ v word h. component_decided)

behind_decided : (key : Key) → IsDecided (IsBehind key)
behind_decided Lead = number_decided 1048576 (omega arith)
behind_decided Trail = number_decided 1048576 (omega arith)
behind_decided Uniform = two_decided 32767 (2 ^ 64 - 1) (omega arith) (omega arith)
behind_decided Spike = decided_pair 32 (SaysNumber 0 33554432) (λ _. AreComponents) spike_words (number_decided 33554432 (omega arith)) (λ v word h. components_decided)
behind_decided Cut = two_decided 33554432 33554432 (omega arith) (omega arith)

key_decided : IsDecided IsKey
key_decided word =
    elim (decided_name key_names (omega arith) word) [
      | inl h ↦ inl (one_of_keys word h)
      | inr bad ↦ inr (bad.0, bad_key word bad.0 bad.1)
    ]

item_decided : IsDecided IsItem
item_decided text =
    elim (decided_pair 32 SaysKey IsBehind key_words key_decided (λ key word h. behind_decided key) text) [
      | inl pair ↦ inl (item_of_pair text pair)
      | inr bad ↦ inr (bad.0, bad_item text bad.0 bad.1)
    ]

counted_decided : (most : ℕ) → 1 ≤ most → IsDecided (SaysSome (IsCounted most))
counted_decided most m text =
    elim (item_decided text) [
      | inl item ↦ inl (item.0, record { some = m; says = item.1 })
      | inr bad ↦ inr (bad.0, bad_counted most text bad.0 m bad.1)
    ]

may_or_not : (most : ℕ) (item : Item) → MayGoOn most item ⊎ ¬ MayGoOn most item
may_or_not most item = elim (cases_lt most 2) [ inl few ↦ inr (λ m. omega (arith, m)) | inr many ↦ inl many ]

pub script_decided : (most : ℕ) → 1 ≤ most → IsDecided (IsScript most)
script_decided most m =
    decided_series 59 32 IsCounted MayGoOn one_less IsScript scripts (λ n. 1 ≤ n) (λ n item word fine h m. omega (arith, m)) counted_decided may_or_not most m
