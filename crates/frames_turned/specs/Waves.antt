-- Frames with turns (own).
use Rattle.std.specs.Prelude.{ℕ, ◌-◌, ◌*◌, ◌/◌, ◌^◌, ◌<◌, ◌≤◌, List, length, nat_lt, pos, if◌then◌else◌}
use Rattle.fixed_complex.specs.declared.Cx.{Cx}
use Rattle.fixed_complex.specs.declared.Sample.{Sample}
use Rattle.fixed_complex.specs.PairLists.{entry}
use Rattle.fixed_complex.specs.Pairs.{IsWithin, minus, multiple, times}
use Rattle.rate_table.specs.Symbols.{symbol_count}
use Rattle.rate_table.specs.Table.{row_of}
use Rattle.fixed_complex.specs.Samples.{pair_at}
use Rattle.frame_lists.specs.Near.{SentFrame, plain_of, samples_of}
use Rattle.symbols_turned.specs.Turns.{IsTurn, unturned}

-- the turn at a time since the start of a frame: none in the training fields, which have 320 samples, and that of the
-- symbol behind them, which has 80; symbol 0 is SIGNAL, symbol m + 1 is DATA symbol m
abbrev pub turn_in_frame : (ℕ → Cx) → ℕ → Cx
turn_in_frame turns time = if nat_lt time 320 then unturned else turns ((time - 320) / 80)

-- the waveform of a frame with turns, 2^41 times real samples, by the time since its start
abbrev pub turned_wave : (ℕ → Cx) → SentFrame → ℕ → Cx
turned_wave turns frame time = times (turn_in_frame turns time) (entry (plain_of frame) time)

-- each symbol of a frame has a turn
abbrev pub AreTurns : (ℕ → Cx) → SentFrame → Type 0
AreTurns turns frame =
    (n : ℕ) → n ≤ symbol_count (row_of frame.rate).field_bits (length frame.psdu) → IsTurn (turns n)

-- as many samples as a frame has stand, and each is within a bound of the frame's waveform with turns, in each component
pub record BeginsNearTurned (bound : ℕ) (turns : ℕ → Cx) (samples : List Sample) (frame : SentFrame)
    : Type 0 where
  pub whole : samples_of frame ≤ length samples
  pub near : (time : ℕ) → time < samples_of frame
      → IsWithin (2 ^ 41 * bound)
      (minus (multiple (pos (2 ^ 41)) (pair_at samples time)) (turned_wave turns frame time))
