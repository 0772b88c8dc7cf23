-- Potentials (own): a number for each phase and state. The phase of a place of a list is the place
-- modulo the period of the code rate (IEEE Std 802.11-2012, 18.3.5.6).
use Rattle.std.specs.Prelude.{ℕ, ◌+◌, ◌*◌, ◌%◌, ◌<◌, ◌≤◌, ◌≡◌, List, slice_index, if◌then◌else◌}
use Rattle.rate_table.specs.declared.CodeRate.{CodeRate}
use Rattle.rate_table.specs.declared.CodeRate.TheVariants.{Half, TwoThirds, ThreeQuarters}
use Rattle.bit_lists.specs.Bits.{IsBit}
use Rattle.conv_code.specs.States.{branch_a, branch_b, state_after}
use Rattle.puncture_map.specs.Kept.{is_kept, period_of}
use Rattle.kept_weights.specs.declared.potentials.TheConstants.{HALF, TWO_THIRDS, THREE_QUARTERS}
use Rattle.kept_weights.specs.Weights.{least_weight}

-- the kept weight of a branch in a phase: the ones among its kept bits
abbrev pub branch_weight : CodeRate → ℕ → ℕ → ℕ → ℕ
branch_weight rate phase state bit =
    (if is_kept rate (2 * phase) then branch_a state bit else 0)
    + (if is_kept rate (2 * phase + 1) then branch_b state bit else 0)

-- the phase after a phase
abbrev pub next_phase : CodeRate → ℕ → ℕ
next_phase rate phase = (phase + 1) % period_of rate

-- what makes numbers of phases and states a potential for a code rate
pub record IsPotential (rate : CodeRate) (number : ℕ → ℕ → ℕ) : Type 0 where
  -- state 0 has the number 0 in every phase
  pub state_zero : (phase : ℕ) → phase < period_of rate → number phase 0 ≡ 0
  -- over a branch, a number falls by at most the branch's kept weight
  pub branches : (phase state bit : ℕ) → phase < period_of rate → state < 64 → IsBit bit
      → number phase state
      ≤ number (next_phase rate phase) (state_after state bit) + branch_weight rate phase state bit
  -- the branch with bit 1 from state 0, and the number that it leads to, make the least kept weight
  pub first_one : (phase : ℕ) → phase < period_of rate
      → least_weight rate ≤ branch_weight rate phase 0 1 + number (next_phase rate phase) 1

-- the potential of a code rate, as a table
abbrev pub table_of : CodeRate → List ℕ
table_of Half = HALF
table_of TwoThirds = TWO_THIRDS
table_of ThreeQuarters = THREE_QUARTERS

-- its number for a phase and a state
unfoldable pub potential_of : CodeRate → ℕ → ℕ → ℕ
potential_of rate phase state = slice_index (table_of rate) (64 * phase + state)
