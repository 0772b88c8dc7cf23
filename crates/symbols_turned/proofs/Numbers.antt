-- The arithmetic of turns, for each modulation.
use Rattle.std.proofs.Common.{ℕ, ◌+◌, ◌-◌, ◌*◌, ◌<◌, ◌≤◌, arith}
use Rattle.rate_table.specs.declared.Modulation.{Modulation}
use Rattle.rate_table.specs.declared.Modulation.TheVariants.{Bpsk, Qpsk, Qam16, Qam64}
use Rattle.decided_axis.specs.Channels.{Allows}
use Rattle.pilot_turns.specs.Turned.{phase_bound_of}
use Rattle.symbols_turned.specs.Turns.{carrier_error, turn_error}
use Rattle.symbols_turned.proofs.Turning.{pilot_error}

-- what is left of the estimate at a pilot, of the turn's error but 1, and of the channel with its turn
abbrev pub left_at_pilots : Modulation → ℕ
left_at_pilots modulation = 41471 - 2 * carrier_error modulation

abbrev pub error_before : Modulation → ℕ
error_before modulation = turn_error modulation - 1

abbrev pub channel_error : Modulation → ℕ
channel_error modulation = 41472 * turn_error modulation + 2 * carrier_error modulation * (16385 + turn_error modulation)

abbrev pub left_of_turned : Modulation → ℕ
left_of_turned Bpsk = 438930359
left_of_turned Qpsk = 521190503
left_of_turned Qam16 = 613766519
left_of_turned Qam64 = 644162975

-- a modulation withstands its phase bound
pub record Bears (modulation : Modulation) : Type 0 where
  pub bound : (bound : ℕ) → bound ≤ phase_bound_of modulation → 91 * bound + 70 ≤ carrier_error modulation
  pub leaves : 1048576 * left_at_pilots modulation + 1048576 * (2 * carrier_error modulation) < 41472 * 1048576
  pub some : 0 < left_at_pilots modulation
  pub few : 1 + error_before modulation ≤ 4000
  pub most : 1 + error_before modulation ≤ turn_error modulation
  pub enough : 32768 * (pilot_error (carrier_error modulation) + pilot_error (carrier_error modulation) + pilot_error (carrier_error modulation) + pilot_error (carrier_error modulation))
      ≤ (8 * (left_at_pilots modulation * left_at_pilots modulation)) * (1048576 * error_before modulation)
  pub allows : Allows modulation 1048576 (16384 * carrier_error modulation) (channel_error modulation) (16384 * 1048573) (left_of_turned modulation)

pub bears : (modulation : Modulation) → Bears modulation
bears Bpsk = record {
  bound = λ bound le. omega arith;
  leaves = omega arith;
  some = omega arith;
  few = omega arith;
  most = omega arith;
  enough = omega arith;
  allows = record { some = omega arith; leaves = omega arith; enough = omega arith };
}
bears Qpsk = record {
  bound = λ bound le. omega arith;
  leaves = omega arith;
  some = omega arith;
  few = omega arith;
  most = omega arith;
  enough = omega arith;
  allows = record { some = omega arith; leaves = omega arith; enough = omega arith };
}
bears Qam16 = record {
  bound = λ bound le. omega arith;
  leaves = omega arith;
  some = omega arith;
  few = omega arith;
  most = omega arith;
  enough = omega arith;
  allows = record { some = omega arith; leaves = omega arith; enough = omega arith };
}
bears Qam64 = record {
  bound = λ bound le. omega arith;
  leaves = omega arith;
  some = omega arith;
  few = omega arith;
  most = omega arith;
  enough = omega arith;
  allows = record { some = omega arith; leaves = omega arith; enough = omega arith };
}
