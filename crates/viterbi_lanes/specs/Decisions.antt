-- The marks of hard decisions (own), over the kept places of the code (IEEE Std 802.11-2012,
-- 18.3.5.6): these carry the decisions in order, and the marks of all other places are absent.
use Rattle.std.specs.Prelude.{ℕ, ◌*◌, ◌==◌, ◌≤◌, List, min, if◌then◌else◌}
use Rattle.bit_lists.specs.Bits.{AreBits}
use Rattle.rate_table.specs.declared.CodeRate.{CodeRate}
use Rattle.rate_table.specs.declared.CodeRate.TheVariants.{Half, TwoThirds, ThreeQuarters}
use Rattle.rate_table.specs.declared.Rate.{Rate}
use Rattle.rate_table.specs.Symbols.{bits_through_tail}
use Rattle.rate_table.specs.Table.{flip_bound_of, row_of}
use Rattle.puncture_map.specs.Carried.{carried_at, carried_pair, carried_pairs}
use Rattle.puncture_map.specs.Kept.{kept_count, kept_code}
use Rattle.survivor_memory.specs.Nearest.{IsClosed}
use Rattle.kept_weights.specs.Weights.{distance_over}
use Rattle.viterbi_lanes.specs.declared.Mark.{Mark}
use Rattle.viterbi_lanes.specs.declared.Mark.TheVariants.{Zero, One, Absent}

-- the mark of a decision
abbrev pub mark_of : ℕ → Mark
mark_of decision = if decision == 0 then Zero else One

-- the mark at a place of the code: a kept place has that of the decision of its rank
abbrev pub mark_at : CodeRate → List ℕ → ℕ → Mark
mark_at rate decisions place = carried_at mark_of Absent rate decisions place

-- the pair of marks of a step, for A and for B
abbrev pub marks_at : CodeRate → List ℕ → ℕ → Mark × Mark
marks_at rate decisions step = carried_pair mark_of Absent rate decisions step

-- the pairs of marks of so many steps
abbrev pub marks_of : CodeRate → List ℕ → ℕ → List (Mark × Mark)
marks_of rate decisions steps = carried_pairs mark_of Absent rate decisions steps

-- how many decisions differ from the kept code of a list of so many bits
abbrev pub changes : CodeRate → ℕ → List ℕ → List ℕ → ℕ
changes rate steps u decisions = distance_over (kept_count rate steps) (kept_code rate u) decisions

-- decisions are the kept code of a list of so many bits that ends in six zeros, but for the few
-- changes that are repaired
pub record AreNearlyKeptCode (rate : CodeRate) (steps : ℕ) (u decisions : List ℕ) : Type 0 where
  pub bits : AreBits decisions
  pub closed : IsClosed steps u
  pub few : changes rate steps u decisions ≤ flip_bound_of rate

-- how many steps the first so many symbols of a DATA field of so many octets carry, up to the end of
-- the tail
abbrev pub carried_steps : Rate → ℕ → ℕ → ℕ
carried_steps rate octets symbols =
    min (symbols * (row_of rate).field_bits) (bits_through_tail octets)

-- how many steps are fed at once: two steps, or the three of a period
abbrev pub fed_at_once : CodeRate → ℕ
fed_at_once Half = 2
fed_at_once TwoThirds = 2
fed_at_once ThreeQuarters = 3
