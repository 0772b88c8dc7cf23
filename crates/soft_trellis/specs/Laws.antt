-- What the laws of soft fields state (own).
use Rattle.std.specs.Prelude.{ℕ, ◌*◌, ◌≡◌, ◌≤◌, List, length, map}
use Rattle.bit_lists.specs.Bits.{AreBits, AreOctets}
use Rattle.frame_fields.specs.Fields.{IsFieldOf}
use Rattle.kept_weights.specs.Decisions.{repaired_cost}
use Rattle.ofdm_scrambler.specs.Sequence.{IsSeed}
use Rattle.rate_table.specs.declared.Rate.{Rate}
use Rattle.rate_table.specs.Table.{row_of}
use Rattle.soft_trellis.specs.Fields.{IsSoftFieldOf, sent_cost}

-- values have a soft field
abbrev pub SomeSoftField : Type 0
SomeSoftField =
    (rate : Rate) (octets : ℕ) (values : List ℕ)
    → (number : ℕ)
    × ((psdu : List ℕ) × ((least : ℕ) × IsSoftFieldOf rate octets values number psdu least))

-- and only one
abbrev pub OneSoftField : Type 0
OneSoftField =
    (rate : Rate) (octets : ℕ) (values : List ℕ) (m n : ℕ) (psdu other : List ℕ) (d e : ℕ)
    → IsSoftFieldOf rate octets values m psdu d → IsSoftFieldOf rate octets values n other e
    → (m ≡ n) × ((psdu ≡ other) × (d ≡ e))

-- each decision as the value 0 or 15
abbrev pub full_values : List ℕ → List ℕ
full_values decisions = map (λ decision. 15 * decision) decisions

-- where every value is 0 or 15, it is the field of these decisions, at 15 times its distance
abbrev pub FullValues : Type 0
FullValues =
    (rate : Rate) (octets : ℕ) (decisions : List ℕ) (number : ℕ) (psdu : List ℕ) (least : ℕ)
    → AreBits decisions → IsFieldOf rate octets decisions number psdu least
    → IsSoftFieldOf rate octets (full_values decisions) number psdu (15 * least)

-- where the kept code of a field costs little, it is that field
abbrev pub LittleCost : Type 0
LittleCost =
    (rate : Rate) (seed : ℕ) (psdu values : List ℕ) → IsSeed seed → AreOctets psdu
    → sent_cost rate seed psdu values ≤ repaired_cost (row_of rate).code_rate
    → IsSoftFieldOf rate (length psdu) values seed psdu (sent_cost rate seed psdu values)
