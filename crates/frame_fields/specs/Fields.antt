-- The field of decisions (own, over the code of IEEE Std 802.11-2012, 18.3.5.6, and the scrambler
-- of 18.3.5.5).
use Rattle.std.specs.Prelude.{◌≡◌, ℕ, ◌*◌, ◌≤◌, List, length, take, drop}
use Rattle.bit_lists.specs.Bits.{octets_of_bits}
use Rattle.data_field.specs.Stages.{field_at}
use Rattle.ofdm_scrambler.specs.Sequence.{scrambled, scrambler_sequence}
use Rattle.rate_table.specs.declared.Rate.{Rate}
use Rattle.rate_table.specs.Symbols.{bits_through_tail}
use Rattle.rate_table.specs.Table.{row_of}
use Rattle.viterbi_lanes.specs.Decisions.{changes, marks_of}
use Rattle.viterbi_lanes.specs.Marks.{IsNearestTo}

-- a number from 0 to 127 names the front of a list: its sequence begins with the first seven bits.
-- Only 0 names seven zeros
pub record NamesFront (number : ℕ) (bits : List ℕ) : Type 0 where
  pub seven_bits : number ≤ 127
  pub begins : scrambler_sequence number 7 ≡ take 7 bits

-- the octets behind the 16 SERVICE bits, once the exclusive or with a number's sequence is undone
abbrev pub psdu_in : ℕ → ℕ → List ℕ → List ℕ
psdu_in octets number bits = octets_of_bits (take (8 * octets) (drop 16 (scrambled number bits)))

-- the field of the decisions of so many octets at a rate: the number that names the front of the
-- list of n_tail bits that is nearest to the first decisions, the octets in it, and its distance
pub record IsFieldOf (rate : Rate) (octets : ℕ) (decisions : List ℕ) (number : ℕ) (psdu : List ℕ)
    (least : ℕ) : Type 0 where
  pub bits : List ℕ
  pub nearest : IsNearestTo (marks_of (row_of rate).code_rate decisions (bits_through_tail octets))
      bits least
  pub names : NamesFront number bits
  pub psdu_is : psdu ≡ psdu_in octets number bits

-- how many decisions differ from the kept code of the field of a PSDU, up to its tail
abbrev pub flips : Rate → ℕ → List ℕ → List ℕ → ℕ
flips rate seed psdu decisions =
    changes (row_of rate).code_rate (bits_through_tail (length psdu)) (field_at rate seed psdu)
    decisions
