-- A frame with echoes, which is received at its start, and the echo of a frame's samples (own).
use Rattle.std.specs.Prelude.{◌≡◌, ◌≤◌, ◌%◌, ℕ, List, length}
use Rattle.capture_files.specs.Captures.{samples_in}
use Rattle.echo_link.specs.Echoed.{EchoedFrame, HasEchoed}
use Rattle.finding_lines.specs.Lines.{frame_line}
use Rattle.frame_fields.specs.Frames.{sent_bytes}
use Rattle.frame_lists.specs.Near.{SentFrame}
use Rattle.frames_in_noise.specs.Laws.{IsFrame, heard_of}
use Rattle.modem_ports.specs.Limits.{most_input}
use Rattle.command_words.specs.Asking.{AskFor}
use Rattle.command_words.specs.declared.Command.TheVariants.{ReceiveAt}
use Rattle.command_words.specs.declared.Request.TheVariants.{Echo}
use Rattle.command_words.specs.Grammar.{Say}

-- the words ask to receive at the start of an echoed frame; the bytes are those of whole samples, and not too many; and
-- the samples have the echoed frame
pub record IsCaptureInEchoes (words : List (List ℕ)) (bytes : List ℕ) (echoed : EchoedFrame)
    : Type 0 where
  pub asked : Say words (ReceiveAt echoed.frame.start)
  pub short : length bytes ≤ most_input
  pub even : length bytes % 4 ≡ 0
  pub there : HasEchoed (samples_in bytes) echoed

-- the line of a frame, as it is heard
abbrev pub line_of : SentFrame → List ℕ
line_of frame = frame_line (heard_of frame)

-- what `send` writes of a frame
abbrev pub bytes_of_frame : SentFrame → List ℕ
bytes_of_frame frame = sent_bytes frame.rate frame.seed frame.psdu

-- words ask for the echo by some pairs, and others to receive at the first place; and the frame, which stands there, may
-- be sent
pub record IsEchoOfFrame (words back : List (List ℕ)) (echoed : EchoedFrame) : Type 0 where
  pub asked : AskFor words (Echo echoed.taps)
  pub received : Say back (ReceiveAt 0)
  pub may_be_sent : IsFrame echoed.frame
  pub first : echoed.frame.start ≡ 0
