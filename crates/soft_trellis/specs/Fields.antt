-- The field of soft decisions (own, over the code of IEEE Std 802.11-2012, 18.3.5.6, and the scrambler
-- of 18.3.5.5).
use Rattle.std.specs.Prelude.{ℕ, ◌≡◌, List, length}
use Rattle.data_field.specs.Stages.{kept_at}
use Rattle.frame_fields.specs.Fields.{NamesFront, psdu_in}
use Rattle.kept_weights.specs.Decisions.{cost_of_decisions}
use Rattle.puncture_map.specs.Kept.{kept_count}
use Rattle.rate_table.specs.declared.Rate.{Rate}
use Rattle.rate_table.specs.Symbols.{bits_through_tail}
use Rattle.rate_table.specs.Table.{row_of}
use Rattle.soft_trellis.specs.Marks.{IsCheapest}
use Rattle.soft_trellis.specs.Values.{marks_of}

-- the soft field of values, for so many octets at a rate: the number that names the front of the list
-- of n_tail bits that costs least against the first values, the octets in it, and its cost
pub record IsSoftFieldOf (rate : Rate) (octets : ℕ) (values : List ℕ) (number : ℕ) (psdu : List ℕ)
    (least : ℕ) : Type 0 where
  pub bits : List ℕ
  pub cheapest : IsCheapest (marks_of (row_of rate).code_rate values (bits_through_tail octets)) bits
      least
  pub names : NamesFront number bits
  pub psdu_is : psdu ≡ psdu_in octets number bits

-- what the kept code of the field of a PSDU costs, up to its tail, against values
abbrev pub sent_cost : Rate → ℕ → List ℕ → List ℕ → ℕ
sent_cost rate seed psdu values =
    cost_of_decisions 15 values
    (kept_count (row_of rate).code_rate (bits_through_tail (length psdu))) (kept_at rate seed psdu)
