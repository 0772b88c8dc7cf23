-- Turns, over 2^20, and what stays within the phase bounds (own).
use Rattle.std.specs.Prelude.{ℕ, ◌+◌, ◌-◌, ◌^◌, pos, ◌≤ℤ◌}
use Rattle.integer_laws.specs.Size.{sum_of_squares}
use Rattle.fixed_complex.specs.declared.Cx.{Cx}
use Rattle.rate_table.specs.declared.Modulation.{Modulation}
use Rattle.rate_table.specs.declared.Modulation.TheVariants.{Bpsk, Qpsk, Qam16, Qam64}

-- a pair is a turn where the square of its size is 2^40, to within 2^22
pub record IsTurn (turn : Cx) : Type 0 where
  pub least : pos (2 ^ 40 - 2 ^ 22) ≤ℤ sum_of_squares turn.re turn.im
  pub most : sum_of_squares turn.re turn.im ≤ℤ pos (2 ^ 40 + 2 ^ 22)

-- the turn of the training fields: none
abbrev pub unturned : Cx
unturned = record { re = pos (2 ^ 20); im = pos 0 }

-- the error of a carrier within the phase bound of a modulation, in the scale of received carriers
abbrev pub carrier_error : Modulation → ℕ
carrier_error Bpsk = 1890
carrier_error Qpsk = 1344
carrier_error Qam16 = 616
carrier_error Qam64 = 343

-- the error of the turn that the pilots tell then, over 16384
abbrev pub turn_error : Modulation → ℕ
turn_error Bpsk = 3947
turn_error Qpsk = 2587
turn_error Qam16 = 1066
turn_error Qam64 = 571
