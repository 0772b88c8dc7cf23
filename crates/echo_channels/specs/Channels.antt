-- What an echo makes of a body, and of each of its carriers (own).
use Rattle.std.specs.Prelude.{◌≡◌, ℕ, ◌+◌, ◌-◌, ◌*◌, ◌^◌, List, length}
use Rattle.fixed_complex.specs.declared.Cx.{Cx}
use Rattle.fixed_complex.specs.declared.Sample.{Sample}
use Rattle.fixed_complex.specs.Laws.{sum_below}
use Rattle.fixed_complex.specs.PairLists.{entry}
use Rattle.fixed_complex.specs.Pairs.{conjugate, times}
use Rattle.fixed_complex.specs.Turns.{turn_at}
use Rattle.plain_waves.specs.Bodies.{plain_body}
use Rattle.carrier_equaliser.specs.Nearness.{IsNearWave}

-- the channel in a bin, 2^30 times a real one: the sum, over the delays, of the tap of the delay times the conjugate of
-- the turn of the bin and the delay
abbrev pub channel_of : List Cx → ℕ → Cx
channel_of taps bin = sum_below 8 (λ late. times (entry taps late) (conjugate (turn_at (bin * late))))

-- the echoed body, 2^31 times real samples: the sum, over the delays, of the tap of the delay times the plain body so
-- much earlier. Before a body stands its end, the cyclic prefix
abbrev pub echoed_body : List Cx → (ℕ → Cx) → ℕ → Cx
echoed_body taps carried n =
    sum_below 8 (λ late. times (entry taps late) (plain_body carried (n + 64 - late)))

-- 64 samples are within a bound of an echoed body, in each component: |2^31 r - V| is at most 2^31 times the bound
pub record IsNearEchoedBody (bound : ℕ) (taps : List Cx) (carried : ℕ → Cx) (body : List Sample) : Type 0 where
  pub long : length body ≡ 64
  pub near : IsNearWave (2 ^ 10) bound (echoed_body taps carried) body
