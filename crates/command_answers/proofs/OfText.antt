-- The outcomes of texts of decisions: `decode` and `decode-soft`.
use Rattle.std.proofs.Common.{◌≡◌, ◌≢◌, ◌⊎◌, inl, inr, ℕ, ◌*◌, List, length, refl, sym, ap, ◌∙◌}
use Rattle.std.proofs.lemmas.Bool.{cases_eq}
use Rattle.bit_lists.proofs.Texts as bit_texts
use Rattle.bit_lists.specs.Text.{IsBadPlace}
use Rattle.frame_fields.specs.Laws.{OneField, SomeField}
use Rattle.rate_table.specs.declared.Rate.{Rate}
use Rattle.rate_table.specs.Symbols.{symbol_count}
use Rattle.rate_table.specs.Table.{row_of}
use Rattle.report_lines.specs.declared.Refusal.{Refusal}
use Rattle.report_lines.specs.declared.Refusal.TheVariants.{BadBit, BadCost, BitCount, CostCount, NoMemory}
use Rattle.report_lines.specs.Refusals.{answering, step_of}
use Rattle.soft_trellis.specs.Laws.{OneSoftField, SomeSoftField}
use Rattle.soft_trellis.specs.Text as digits
use Rattle.soft_trellis.proofs.Digits as digit_texts
use Rattle.command_answers.specs.Decoding.{DecodeOutcome, HasBits, HasCosts, HasField, HasSoftField, OfDecisions, SoftOutcome, decisions_needed}
use Rattle.command_answers.specs.InOrder.{Outcome, Refuses, Writes, passed, passed_all, refused, refused_for, with_it}
use Rattle.command_answers.proofs.InOrder.{AllAre, AtLeastOne, AtMostOne, answers_all, answers_one, unless_all, unless_one, unless_some, unless_some_all, unless_some_one, unless_some_some, with_all, with_one, with_some}

-- a text has decisions or a bad place, one of the two, and one of either
pub record IsReadable (IsBad : ℕ → Type 0) (Has : List ℕ → Type 0) : Type 0 where
  some : ((decisions : List ℕ) × Has decisions) ⊎ ((at : ℕ) × IsBad at)
  one_list : (a b : List ℕ) → Has a → Has b → a ≡ b
  one_place : (a b : ℕ) → IsBad a → IsBad b → a ≡ b
  apart : (decisions : List ℕ) (at : ℕ) → Has decisions → IsBad at → ⊥

pub bits_readable : (text : List ℕ) → IsReadable (IsBadPlace text) (HasBits text)
bits_readable text = record {
  some = bit_texts.some_text text;
  one_list = λ a b has has'. bit_texts.one_text text a b has.1 has'.1;
  one_place = bit_texts.one_place text;
  apart = λ bits at has bad. bit_texts.apart text bits at has.0 has.1 bad;
}

pub costs_readable : (text : List ℕ) → IsReadable (digits.IsBadPlace text) (HasCosts text)
costs_readable text = record {
  some = digit_texts.some_text text;
  one_list = λ a b has has'. digit_texts.one_text text a b has.1 has'.1;
  one_place = digit_texts.one_place text;
  apart = λ values at has bad. digit_texts.apart text values at has.0 has.1 bad;
}

-- two numbers differ or not
differ_or_not : (a b : ℕ) → (a ≢ b) ⊎ ¬ (a ≢ b)
differ_or_not a b = elim (cases_eq a b) [ inl same ↦ inr (λ other. other same) | inr other ↦ inl other ]

-- the outcome of a text that has these decisions, as many as are needed
pub of_decisions : (IsBad : ℕ → Type 0) (bad : ℕ → Refusal) (Has : List ℕ → Type 0) (need : ℕ) (other : ℕ → Refusal) (Decoded : List ℕ → List ℕ → Type 0) → IsReadable IsBad Has
    → (decisions answer : List ℕ) → Has decisions → length decisions ≡ need → Decoded decisions answer → OfDecisions IsBad bad Has need other Decoded (Writes answer)
of_decisions IsBad bad Has need other Decoded readable decisions answer has enough decoded =
    passed_all (λ at bad. readable.apart decisions at has bad) (with_it decisions has (passed (λ differ. differ enough) (with_it answer decoded refl)))

-- .. and of one that has another number of them
pub of_other_count : (IsBad : ℕ → Type 0) (bad : ℕ → Refusal) (Has : List ℕ → Type 0) (need : ℕ) (other : ℕ → Refusal) (Decoded : List ℕ → List ℕ → Type 0) → IsReadable IsBad Has
    → (decisions : List ℕ) (refusal : Refusal) → Has decisions → length decisions ≢ need → refusal ≡ other (length decisions) → OfDecisions IsBad bad Has need other Decoded (Refuses refusal)
of_other_count IsBad bad Has need other Decoded readable decisions refusal has differ is =
    passed_all (λ at bad. readable.apart decisions at has bad) (with_it decisions has (refused differ (ap Refuses is)))

decisions_some : (IsBad : ℕ → Type 0) (bad : ℕ → Refusal) (Has : List ℕ → Type 0) (need : ℕ) (other : ℕ → Refusal) (Decoded : List ℕ → List ℕ → Type 0) → IsReadable IsBad Has
    → ((decisions : List ℕ) → (answer : List ℕ) × Decoded decisions answer) → AtLeastOne (OfDecisions IsBad bad Has need other Decoded)
decisions_some IsBad bad Has need other Decoded readable decoded =
    elim readable.some [
      | inr place ↦ unless_some_some IsBad bad _ (inl place) (λ none. absurd (none place.0 place.1))
      | inl read ↦ unless_some_some IsBad bad _ (inr (λ at bad. readable.apart read.0 at read.1 bad)) (λ none.
          with_some Has _ read.0 read.1
          (unless_some _ _ _ (differ_or_not (length read.0) need) (λ enough.
          let answer = decoded read.0 in with_some (Decoded read.0) _ answer.0 answer.1 (Writes answer.0, refl))))
    ]

decisions_one : (IsBad : ℕ → Type 0) (bad : ℕ → Refusal) (Has : List ℕ → Type 0) (need : ℕ) (other : ℕ → Refusal) (Decoded : List ℕ → List ℕ → Type 0) → IsReadable IsBad Has
    → ((decisions a b : List ℕ) → Decoded decisions a → Decoded decisions b → a ≡ b) → AtMostOne (OfDecisions IsBad bad Has need other Decoded)
decisions_one IsBad bad Has need other Decoded readable decoded =
    unless_some_one IsBad bad _ readable.one_place
    (with_one Has _ readable.one_list (λ decisions has. unless_one _ _ _ (λ enough. answers_one (Decoded decisions) (decoded decisions))))

decisions_all : (IsBad : ℕ → Type 0) (bad : ℕ → Refusal) (Has : List ℕ → Type 0) (need : ℕ) (other : ℕ → Refusal) (Decoded : List ℕ → List ℕ → Type 0) (Good : Outcome → Type 0)
    → ((at : ℕ) → Good (Refuses (bad at))) → ((have : ℕ) → Good (Refuses (other have))) → ((answer : List ℕ) → Good (Writes answer)) → AllAre Good (OfDecisions IsBad bad Has need other Decoded)
decisions_all IsBad bad Has need other Decoded Good of_bad of_other writes =
    unless_some_all IsBad Good bad _ of_bad
    (with_all Has Good _ (λ decisions has. unless_all Good _ _ _ (of_other (length decisions)) (answers_all Good (Decoded decisions) writes)))

pub decode_some : SomeField → (rate : Rate) (octets : ℕ) (text : List ℕ) → AtLeastOne (DecodeOutcome rate octets text)
decode_some some rate octets text =
    decisions_some _ _ _ (decisions_needed rate octets) (λ have. BitCount have (decisions_needed rate octets)) (HasField rate octets) (bits_readable text) (λ bits. let field = some rate octets bits in (field.1.0, (field.0, field.1.1)))

pub decode_one : OneField → (rate : Rate) (octets : ℕ) (text : List ℕ) → AtMostOne (DecodeOutcome rate octets text)
decode_one one rate octets text =
    decisions_one _ _ _ (decisions_needed rate octets) (λ have. BitCount have (decisions_needed rate octets)) (HasField rate octets) (bits_readable text) (λ bits x y has has'. (one rate octets bits has.0 has'.0 x y has.1.0 has'.1.0 has.1.1 has'.1.1).1.0)

pub decode_all : (Good : Outcome → Type 0) (rate : Rate) (octets : ℕ) (text : List ℕ) → ((refusal : Refusal) → step_of refusal ≡ answering → Good (Refuses refusal))
    → ((answer : List ℕ) → Good (Writes answer)) → AllAre Good (DecodeOutcome rate octets text)
decode_all Good rate octets text refuses writes =
    decisions_all _ _ _ (decisions_needed rate octets) (λ have. BitCount have (decisions_needed rate octets)) (HasField rate octets) Good (λ at. refuses (BadBit at) refl) (λ have. refuses (BitCount have (decisions_needed rate octets)) refl) writes

pub soft_some : SomeSoftField → (rate : Rate) (octets : ℕ) (text : List ℕ) → AtLeastOne (SoftOutcome rate octets text)
soft_some some rate octets text =
    decisions_some _ _ _ (decisions_needed rate octets) (λ have. CostCount have (decisions_needed rate octets)) (HasSoftField rate octets) (costs_readable text) (λ values. let field = some rate octets values in (field.1.0, (field.0, field.1.1)))

pub soft_one : OneSoftField → (rate : Rate) (octets : ℕ) (text : List ℕ) → AtMostOne (SoftOutcome rate octets text)
soft_one one rate octets text =
    decisions_one _ _ _ (decisions_needed rate octets) (λ have. CostCount have (decisions_needed rate octets)) (HasSoftField rate octets) (costs_readable text) (λ values x y has has'. (one rate octets values has.0 has'.0 x y has.1.0 has'.1.0 has.1.1 has'.1.1).1.0)

pub soft_all : (Good : Outcome → Type 0) (rate : Rate) (octets : ℕ) (text : List ℕ) → ((refusal : Refusal) → step_of refusal ≡ answering → Good (Refuses refusal))
    → ((answer : List ℕ) → Good (Writes answer)) → AllAre Good (SoftOutcome rate octets text)
soft_all Good rate octets text refuses writes =
    decisions_all _ _ _ (decisions_needed rate octets) (λ have. CostCount have (decisions_needed rate octets)) (HasSoftField rate octets) Good (λ at. refuses (BadCost at) refl) (λ have. refuses (CostCount have (decisions_needed rate octets)) refl) writes

-- what a text is refused for, where it isn't want of memory
pub bad_bits : (rate : Rate) (octets : ℕ) (text : List ℕ) (refusal : Refusal) → (refusal ≡ NoMemory) ⊎ ((at : ℕ) × (refusal ≡ BadBit at) × IsBadPlace text at)
    → (refusal ≡ NoMemory) ⊎ ((step_of refusal ≡ answering) × DecodeOutcome rate octets text (Refuses refusal))
bad_bits rate octets text refusal (inl want) = inl want
bad_bits rate octets text refusal (inr (at, is, bad)) = inr (rw is refl, refused_for at bad (ap Refuses is))

pub bad_costs : (rate : Rate) (octets : ℕ) (text : List ℕ) (refusal : Refusal) → (refusal ≡ NoMemory) ⊎ ((at : ℕ) × (refusal ≡ BadCost at) × digits.IsBadPlace text at)
    → (refusal ≡ NoMemory) ⊎ ((step_of refusal ≡ answering) × SoftOutcome rate octets text (Refuses refusal))
bad_costs rate octets text refusal (inl want) = inl want
bad_costs rate octets text refusal (inr (at, is, bad)) = inr (rw is refl, refused_for at bad (ap Refuses is))

-- a text of as many decisions as are needed
pub bits_written : (rate : Rate) (octets : ℕ) (text bits answer : List ℕ) → HasBits text bits → length bits ≡ decisions_needed rate octets → HasField rate octets bits answer
    → DecodeOutcome rate octets text (Writes answer)
bits_written rate octets text bits answer has enough field = of_decisions _ _ _ (decisions_needed rate octets) (λ have. BitCount have (decisions_needed rate octets)) (HasField rate octets) (bits_readable text) bits answer has enough field

pub costs_written : (rate : Rate) (octets : ℕ) (text costs answer : List ℕ) → HasCosts text costs → length costs ≡ decisions_needed rate octets → HasSoftField rate octets costs answer
    → SoftOutcome rate octets text (Writes answer)
costs_written rate octets text costs answer has enough field = of_decisions _ _ _ (decisions_needed rate octets) (λ have. CostCount have (decisions_needed rate octets)) (HasSoftField rate octets) (costs_readable text) costs answer has enough field

-- how many decisions are needed, as it is counted
pub needed : (rate : Rate) (octets symbols coded : ℕ) → symbols ≡ symbol_count (row_of rate).field_bits octets → coded ≡ (row_of rate).coded_bits → symbols * coded ≡ decisions_needed rate octets
needed rate octets symbols coded at_symbols at_coded = ap (λ n. n * coded) at_symbols ∙ ap (λ n. symbol_count (row_of rate).field_bits octets * n) at_coded

-- another number of bits than is needed
pub other_bits : (rate : Rate) (octets : ℕ) (text bits : List ℕ) (have symbols coded : ℕ) → HasBits text bits → have ≡ length bits
    → symbols ≡ symbol_count (row_of rate).field_bits octets → coded ≡ (row_of rate).coded_bits → have ≢ symbols * coded
    → DecodeOutcome rate octets text (Refuses (BitCount have (symbols * coded)))
other_bits rate octets text bits have symbols coded has at_have at_symbols at_coded differ =
    let need = needed rate octets symbols coded at_symbols at_coded in
    of_other_count _ _ _ (decisions_needed rate octets) (λ have. BitCount have (decisions_needed rate octets)) (HasField rate octets) (bits_readable text) bits _ has (λ same. differ (at_have ∙ same ∙ sym need))
    (ap (λ n. BitCount n (symbols * coded)) at_have ∙ ap (λ n. BitCount (length bits) n) need)

-- .. of costs
pub other_costs : (rate : Rate) (octets : ℕ) (text costs : List ℕ) (have symbols coded : ℕ) → HasCosts text costs → have ≡ length costs
    → symbols ≡ symbol_count (row_of rate).field_bits octets → coded ≡ (row_of rate).coded_bits → have ≢ symbols * coded
    → SoftOutcome rate octets text (Refuses (CostCount have (symbols * coded)))
other_costs rate octets text costs have symbols coded has at_have at_symbols at_coded differ =
    let need = needed rate octets symbols coded at_symbols at_coded in
    of_other_count _ _ _ (decisions_needed rate octets) (λ have. CostCount have (decisions_needed rate octets)) (HasSoftField rate octets) (costs_readable text) costs _ has (λ same. differ (at_have ∙ same ∙ sym need))
    (ap (λ n. CostCount n (symbols * coded)) at_have ∙ ap (λ n. CostCount (length costs) n) need)
