-- What the laws of fields of decisions state (own).
use Rattle.std.specs.Prelude.{◌≡◌, ◌≤◌, ℕ, List, length}
use Rattle.bit_lists.specs.Bits.{AreBits, AreOctets}
use Rattle.ofdm_scrambler.specs.Sequence.{IsSeed}
use Rattle.rate_table.specs.declared.Rate.{Rate}
use Rattle.rate_table.specs.Table.{row_of}
use Rattle.frame_fields.specs.Fields.{IsFieldOf, flips}

-- decisions have a field
abbrev pub SomeField : Type 0
SomeField =
    (rate : Rate) (octets : ℕ) (decisions : List ℕ)
    → (number : ℕ)
    × ((psdu : List ℕ) × ((least : ℕ) × IsFieldOf rate octets decisions number psdu least))

-- and only one
abbrev pub OneField : Type 0
OneField =
    (rate : Rate) (octets : ℕ) (decisions : List ℕ) (m n : ℕ) (psdu other : List ℕ) (d e : ℕ)
    → IsFieldOf rate octets decisions m psdu d → IsFieldOf rate octets decisions n other e
    → (m ≡ n) × ((psdu ≡ other) × (d ≡ e))

-- where few decisions differ from the kept code of a field, up to its tail, it is theirs
abbrev pub FewFlips : Type 0
FewFlips =
    (rate : Rate) (seed : ℕ) (psdu decisions : List ℕ) → IsSeed seed → AreOctets psdu
    → AreBits decisions
    → flips rate seed psdu decisions ≤ (row_of rate).flip_bound
    → IsFieldOf rate (length psdu) decisions seed psdu (flips rate seed psdu decisions)
