-- A capture of frames in noise, which is received (own).
use Rattle.std.specs.Prelude.{◌≡◌, ◌≤◌, ◌%◌, ℕ, List, length, map}
use Rattle.std.specs.List.{flat_map}
use Rattle.capture_files.specs.Captures.{samples_in}
use Rattle.finding_lines.specs.Lines.{frame_line}
use Rattle.frame_lists.specs.Near.{SentFrame}
use Rattle.frame_receiver.specs.Noise.{HasInNoise}
use Rattle.frames_in_noise.specs.Laws.{heard_of}
use Rattle.modem_ports.specs.Limits.{most_input}
use Rattle.command_words.specs.declared.Command.TheVariants.{Receive}
use Rattle.command_words.specs.Grammar.{Say}

-- the words ask to receive; the bytes are those of whole samples, and not too many; and the samples are
-- near frames that may be sent, each within the noise bound of its rate, and within 64 of silence
-- elsewhere
pub record IsCaptureInNoise (words : List (List ℕ)) (bytes : List ℕ) (frames : List SentFrame)
    : Type 0 where
  pub asked : Say words Receive
  pub short : length bytes ≤ most_input
  pub even : length bytes % 4 ≡ 0
  pub in_noise : HasInNoise (samples_in bytes) frames

-- the lines of frames, as they are heard, in order
abbrev pub lines_of : List SentFrame → List ℕ
lines_of frames = flat_map frame_line (map heard_of frames)
