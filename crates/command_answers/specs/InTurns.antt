-- A frame with turns, which is received at its start by its pilots, and a frame whose symbols are turned (own).
use Rattle.std.specs.Prelude.{◌≡◌, ◌≤◌, ◌%◌, ℕ, List, length}
use Rattle.capture_files.specs.Captures.{samples_in}
use Rattle.fixed_complex.specs.declared.Cx.{Cx}
use Rattle.frame_lists.specs.Near.{SentFrame}
use Rattle.frames_in_noise.specs.Laws.{IsFrame}
use Rattle.phase_track.specs.Turned.{StandsTurned}
use Rattle.modem_ports.specs.Limits.{most_input}
use Rattle.command_words.specs.declared.Command.TheVariants.{ReceivePhase, Rotate}
use Rattle.command_words.specs.Grammar.{Say}

-- a frame that is sent, and the turn of each of its symbols
pub record TurnedFrame : Type 0 where
  pub frame : SentFrame
  pub turns : ℕ → Cx

-- the words ask to receive at the start of a frame with turns, by its pilots; the bytes are those of whole samples, and
-- not too many; and the frame stands there with its turns, within the phase bound of its rate
pub record IsCaptureInTurns (words : List (List ℕ)) (bytes : List ℕ) (turned : TurnedFrame)
    : Type 0 where
  pub asked : Say words (ReceivePhase turned.frame.start)
  pub short : length bytes ≤ most_input
  pub even : length bytes % 4 ≡ 0
  pub stands : StandsTurned turned.turns (samples_in bytes) turned.frame.start turned.frame

-- words ask to turn the symbols of what is sent of a frame, from the first place on, by some step, and others to receive
-- there by the pilots; and the frame, which stands there, may be sent
pub record IsTurnOfFrame (words back : List (List ℕ)) (step : ℕ) (frame : SentFrame) : Type 0 where
  pub asked : Say words (Rotate 0 step)
  pub received : Say back (ReceivePhase 0)
  pub may_be_sent : IsFrame frame
  pub first : frame.start ≡ 0
