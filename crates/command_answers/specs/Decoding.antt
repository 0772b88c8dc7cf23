-- What `decode` and `decode-soft` come to (own).
use Rattle.std.specs.Prelude.{ℕ, ◌*◌, ◌≢◌, List, length}
use Rattle.bit_lists.specs.Bits.{AreBits}
use Rattle.bit_lists.specs.Text.{IsBadPlace, IsTextOf}
use Rattle.frame_fields.specs.Fields.{IsFieldOf}
use Rattle.rate_table.specs.declared.Rate.{Rate}
use Rattle.rate_table.specs.Symbols.{symbol_count}
use Rattle.rate_table.specs.Table.{row_of}
use Rattle.report_lines.specs.declared.Refusal.{Refusal}
use Rattle.report_lines.specs.declared.Refusal.TheVariants.{BadBit, BadCost, BitCount, CostCount}
use Rattle.soft_trellis.specs.Fields.{IsSoftFieldOf}
use Rattle.soft_trellis.specs.Text as digits
use Rattle.soft_trellis.specs.Values.{AreValues}
use Rattle.command_answers.specs.InOrder.{Answers, Outcome, Unless, UnlessSome, With}

-- how many decisions are needed: N_SYM * N_CBPS
abbrev pub decisions_needed : Rate → ℕ → ℕ
decisions_needed rate octets = symbol_count (row_of rate).field_bits octets * (row_of rate).coded_bits

-- the outcome of a text of decisions, in the order of its refusals: a place of the text holds none; it
-- has another number of them than is needed; else what they are decoded to is written
abbrev pub OfDecisions : (ℕ → Type 0) → (ℕ → Refusal) → (List ℕ → Type 0) → ℕ → (ℕ → Refusal)
    → (List ℕ → List ℕ → Type 0) → Outcome → Type 0
OfDecisions IsBad bad Has need other Decoded =
    UnlessSome IsBad bad
    (With Has (λ decisions.
    Unless (length decisions ≢ need) (other (length decisions)) (Answers (Decoded decisions))))

-- a text is that of these bits
abbrev pub HasBits : List ℕ → List ℕ → Type 0
HasBits text bits = AreBits bits × IsTextOf text bits

-- the PSDU of the field of the bits
abbrev pub HasField : Rate → ℕ → List ℕ → List ℕ → Type 0
HasField rate octets bits psdu =
    (number : ℕ) × ((least : ℕ) × IsFieldOf rate octets bits number psdu least)

-- the outcome of `decode`
abbrev pub DecodeOutcome : Rate → ℕ → List ℕ → Outcome → Type 0
DecodeOutcome rate octets text =
    let need = decisions_needed rate octets in
    OfDecisions (IsBadPlace text) (λ at. BadBit at) (HasBits text) need (λ have. BitCount have need)
    (HasField rate octets)

-- a text is that of these costs
abbrev pub HasCosts : List ℕ → List ℕ → Type 0
HasCosts text values = AreValues values × digits.IsTextOf text values

-- the PSDU of the soft field of the costs
abbrev pub HasSoftField : Rate → ℕ → List ℕ → List ℕ → Type 0
HasSoftField rate octets values psdu =
    (number : ℕ) × ((least : ℕ) × IsSoftFieldOf rate octets values number psdu least)

-- the outcome of `decode-soft`
abbrev pub SoftOutcome : Rate → ℕ → List ℕ → Outcome → Type 0
SoftOutcome rate octets text =
    let need = decisions_needed rate octets in
    OfDecisions (digits.IsBadPlace text) (λ at. BadCost at) (HasCosts text) need
    (λ have. CostCount have need) (HasSoftField rate octets)
