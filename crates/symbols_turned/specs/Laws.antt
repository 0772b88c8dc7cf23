-- What the laws of turned symbols state (own).
use Rattle.std.specs.Prelude.{◌≡◌, ℕ, ◌*◌, ◌^◌, List, length, pos}
use Rattle.bit_lists.specs.Bits.{AreBits}
use Rattle.fixed_complex.specs.declared.Cx.{Cx}
use Rattle.fixed_complex.specs.Pairs.{IsOfSize, minus, multiple}
use Rattle.rate_table.specs.declared.Rate.{Rate}
use Rattle.rate_table.specs.declared.Modulation.{Modulation}
use Rattle.rate_table.specs.Table.{row_of}
use Rattle.interleave_two.specs.Place.{deinterleaved}
use Rattle.carrier_bins.specs.Bins.{by_bin}
use Rattle.training_fields.specs.Training.{long_carrier}
use Rattle.symbol_builder.specs.Carriers.{symbol_bin}
use Rattle.symbol_builder.specs.Points.{points_of_code}
use Rattle.carrier_equaliser.specs.Estimates.{estimate_of}
use Rattle.decided_axis.specs.Channels.{AreCarried}
use Rattle.pilot_turns.specs.Pilots.{turn_by_pilots}
use Rattle.pilot_turns.specs.Turned.{interleaved_turned}
use Rattle.symbols_turned.specs.Turns.{IsTurn, carrier_error, turn_error, unturned}

-- the long training field comes back as it was sent, and a symbol over one turn, each carrier to within an error
pub record AreTurned (error : ℕ) (turn : Cx) (points : List Cx) (number : ℕ) (first second symbol : List Cx) : Type 0 where
  pub is : IsTurn turn
  pub near : AreCarried (2 ^ 20) error (λ _. unturned) (by_bin long_carrier) first
  pub next : AreCarried (2 ^ 20) error (λ _. unturned) (by_bin long_carrier) second
  pub carries : AreCarried (2 ^ 20) error (λ _. turn) (symbol_bin points number) symbol

-- the pilots tell the turn over 16384, to within the error that the modulation bears
abbrev pub TurnIsTold : Type 0
TurnIsTold =
    (modulation : Modulation) (turn : Cx) (points : List Cx) (number : ℕ) (first second symbol : List Cx)
    → AreTurned (carrier_error modulation) turn points number first second symbol
    → IsOfSize (2 ^ 20 * turn_error modulation)
    (minus (multiple (pos (2 ^ 20)) (turn_by_pilots (estimate_of first second) symbol number))
    (multiple (pos 16384) turn))

-- the decisions of a symbol that is turned back by its pilots are its coded bits
abbrev pub DecidedTurned : Type 0
DecidedTurned =
    (rate : Rate) (turn : Cx) (number : ℕ) (bits : List ℕ) (first second symbol : List Cx)
    → AreBits bits → length bits ≡ (row_of rate).coded_bits
    → AreTurned (carrier_error (row_of rate).modulation) turn (points_of_code rate bits) number first second symbol
    → deinterleaved rate
    (interleaved_turned rate (turn_by_pilots (estimate_of first second) symbol number)
    (estimate_of first second) symbol)
    ≡ bits
