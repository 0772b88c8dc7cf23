-- Steps that are fed at once.
use Rattle.std.proofs.Common.{◌≡◌, ℕ, ◌+◌, ◌*◌, ◌%◌, ◌<◌, arith}
use Rattle.rate_table.specs.declared.CodeRate.{CodeRate}
use Rattle.rate_table.specs.declared.CodeRate.TheVariants.{Half, TwoThirds, ThreeQuarters}
use Rattle.puncture_map.specs.Kept.{period_of}
use Rattle.puncture_map.proofs.Periods.{IsWalked, walked}
use Rattle.viterbi_lanes.specs.Decisions.{fed_at_once}

pub blocks_walked : (rate : CodeRate) (count n phase : ℕ) → IsWalked (fed_at_once rate) count n phase
blocks_walked Half = walked TwoThirds
blocks_walked TwoThirds = walked TwoThirds
blocks_walked ThreeQuarters = walked ThreeQuarters

-- they are whole periods
pub begins_period : (rate : CodeRate) (n : ℕ) → n * fed_at_once rate % period_of rate ≡ 0
begins_period Half n = omega arith
begins_period TwoThirds n = omega arith
begins_period ThreeQuarters n = omega arith

-- and the few steps behind them are within one
pub behind_blocks : (rate : CodeRate) (n count phase : ℕ) → phase < count % fed_at_once rate
    → (phase < period_of rate) × ((n * fed_at_once rate + phase) % period_of rate ≡ phase)
behind_blocks Half n count phase h = (omega arith, omega arith)
behind_blocks TwoThirds n count phase h = (omega arith, omega arith)
behind_blocks ThreeQuarters n count phase h = (omega arith, omega arith)
