-- A frame with turns in a capture, and a fault that it doesn't exclude (own).
use Rattle.std.specs.Prelude.{◌≡◌, ℕ, List, drop, ⊤}
use Rattle.fixed_complex.specs.declared.Cx.{Cx}
use Rattle.fixed_complex.specs.declared.Sample.{Sample}
use Rattle.frame_lists.specs.Near.{SentFrame}
use Rattle.frame_starts.specs.declared.AtFault.{AtFault}
use Rattle.frame_starts.specs.declared.AtFault.TheVariants.{BadHeader, CutAt, NoMemory}
use Rattle.frames_in_noise.specs.Laws.{IsFrame}
use Rattle.frames_turned.specs.Laws.{bound_of}
use Rattle.frames_turned.specs.Waves.{AreTurns, BeginsNearTurned}

-- at a start of a capture a frame stands whole, with a turn for each symbol: within the phase bound of its rate of its
-- waveform with these turns
pub record StandsTurned (turns : ℕ → Cx) (capture : List Sample) (start : ℕ) (frame : SentFrame) : Type 0 where
  pub is : IsFrame frame
  pub there : frame.start ≡ start
  pub turned : AreTurns turns frame
  pub near : BeginsNearTurned (bound_of frame) turns (drop start capture) frame

-- a fault is want of memory
abbrev pub IsWant : AtFault → Type 0
IsWant (CutAt start have need) = ⊥
IsWant (BadHeader start) = ⊥
IsWant (NoMemory want) = ⊤
