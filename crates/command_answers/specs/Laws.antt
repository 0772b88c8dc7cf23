-- What holds of outcomes, for every input: what the laws ensure (own).
use Rattle.std.specs.Prelude.{◌≡◌, ℕ, List}
use Rattle.frame_lists.specs.Near.{SentFrame}
use Rattle.list_texts.specs.declared.Entry.{Entry}
use Rattle.send_lists.specs.Sent.{frames_of_list}
use Rattle.command_answers.specs.Flips.{IsCheapText, IsFlippedText}
use Rattle.command_answers.specs.InNoise.{IsCaptureInNoise, lines_of}
use Rattle.echo_link.specs.Echoed.{EchoedFrame}
use Rattle.command_answers.specs.Answers.{echoed_bytes, rotated_bytes}
use Rattle.command_answers.specs.InEchoes.{IsCaptureInEchoes, IsEchoOfFrame, bytes_of_frame, line_of}
use Rattle.command_answers.specs.InTurns.{IsCaptureInTurns, IsTurnOfFrame, TurnedFrame}
use Rattle.command_answers.specs.InOrder.{Outcome, Writes}
use Rattle.command_answers.specs.Listing.{IsSentList, bytes_of_list}
use Rattle.command_answers.specs.Outcome.{HasOutcome}

-- all words and all bytes have an outcome
abbrev pub SomeOutcome : Type 0
SomeOutcome =
    (words : List (List ℕ)) (bytes : List ℕ) → (outcome : Outcome) × HasOutcome words bytes outcome

-- .. and no other
abbrev pub OneOutcome : Type 0
OneOutcome =
    (words : List (List ℕ)) (bytes : List ℕ) (a b : Outcome)
    → HasOutcome words bytes a → HasOutcome words bytes b → a ≡ b

-- the outcome of a text that is the kept code of a field with few flips: that field's PSDU is
-- written
abbrev pub FlippedTextGivesItsPsdu : Type 0
FlippedTextGivesItsPsdu =
    (words : List (List ℕ)) (bytes psdu : List ℕ)
    → IsFlippedText words bytes psdu → HasOutcome words bytes (Writes psdu)

-- the outcome of a capture of frames in noise: the lines of exactly these frames are written, in order
abbrev pub CaptureInNoiseGivesItsFrames : Type 0
CaptureInNoiseGivesItsFrames =
    (words : List (List ℕ)) (bytes : List ℕ) (frames : List SentFrame)
    → IsCaptureInNoise words bytes frames → HasOutcome words bytes (Writes (lines_of frames))

-- the outcome of a capture with an echoed frame, which is received at its start: the line of exactly this frame is written
abbrev pub EchoedCaptureGivesItsFrame : Type 0
EchoedCaptureGivesItsFrame =
    (words : List (List ℕ)) (bytes : List ℕ) (echoed : EchoedFrame)
    → IsCaptureInEchoes words bytes echoed → HasOutcome words bytes (Writes (line_of echoed.frame))

-- the outcome of `echo` on what is sent of a frame: the bytes of its echo are written; and the outcome of these, which are
-- received at their first place: the line of this frame
abbrev pub EchoGivesItsFrame : Type 0
EchoGivesItsFrame =
    (words back : List (List ℕ)) (echoed : EchoedFrame) → IsEchoOfFrame words back echoed
    → HasOutcome words (bytes_of_frame echoed.frame)
    (Writes (echoed_bytes echoed.taps (bytes_of_frame echoed.frame)))
    × HasOutcome back (echoed_bytes echoed.taps (bytes_of_frame echoed.frame))
    (Writes (line_of echoed.frame))

-- the outcome of a capture with a frame with turns, which is received at its start by its pilots: the line of exactly this
-- frame is written
abbrev pub TurnedCaptureGivesItsFrame : Type 0
TurnedCaptureGivesItsFrame =
    (words : List (List ℕ)) (bytes : List ℕ) (turned : TurnedFrame)
    → IsCaptureInTurns words bytes turned → HasOutcome words bytes (Writes (line_of turned.frame))

-- the outcome of `rotate` on what is sent of a frame: the bytes of its turned samples are written; and the outcome of
-- these, which are received at their first place by the pilots: the line of this frame
abbrev pub RotateGivesItsFrame : Type 0
RotateGivesItsFrame =
    (words back : List (List ℕ)) (step : ℕ) (frame : SentFrame) → IsTurnOfFrame words back step frame
    → HasOutcome words (bytes_of_frame frame) (Writes (rotated_bytes 0 step (bytes_of_frame frame)))
    × HasOutcome back (rotated_bytes 0 step (bytes_of_frame frame)) (Writes (line_of frame))

-- the outcome of a text of costs against which the kept code of a field costs little: that field's PSDU
-- is written
abbrev pub CheapTextGivesItsPsdu : Type 0
CheapTextGivesItsPsdu =
    (words : List (List ℕ)) (bytes psdu : List ℕ)
    → IsCheapText words bytes psdu → HasOutcome words bytes (Writes psdu)

-- the outcome of a list of frames that is not too long: the bytes of its samples are written; and the outcome of these, which
-- are received: the lines of exactly its frames, at their starts, in order
abbrev pub SentListGivesItsFrames : Type 0
SentListGivesItsFrames =
    (words back : List (List ℕ)) (text : List ℕ) (entries : List Entry)
    → IsSentList words back text entries
    → HasOutcome words text (Writes (bytes_of_list entries))
    × HasOutcome back (bytes_of_list entries) (Writes (lines_of (frames_of_list entries)))
