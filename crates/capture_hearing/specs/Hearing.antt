-- What was heard of the bytes of a capture that came so far (own).
use Rattle.std.specs.Prelude.{◌≡◌, ℕ, ◌*◌, ◌+◌, ◌≤◌, List, ◌++◌, length}
use Rattle.std.specs.List.{flat_map}
use Rattle.capture_files.specs.Captures.{bytes_of_samples}
use Rattle.finding_lines.specs.Lines.{frame_line}
use Rattle.fixed_complex.specs.declared.Sample.{Sample}
use Rattle.fixed_complex.specs.Samples.{AreSamples}
use Rattle.frame_findings.specs.declared.Heard.{Heard}
use Rattle.frame_receiver.specs.Receiving.{ReceiverView, Stands}
use Rattle.modem_ports.specs.Limits.{most_input}

-- what a hearing shows: how many bytes came, those of a sample that isn't whole, the receiver, and the
-- lines
pub record HearingView : Type 0 where
  pub count : ℕ
  pub held : List ℕ
  pub receiver : ReceiverView
  pub lines : List ℕ

-- a receiver took samples, and lines are those of the frames that it heard
pub record HasLines (receiver : ReceiverView) (lines : List ℕ) (samples : List Sample) : Type 0 where
  pub heard : List Heard
  pub stands : Stands receiver samples heard
  pub lines_are : lines ≡ flat_map frame_line heard

-- it heard these bytes: they are those of samples, and then the ones that are held; the receiver took
-- the samples, and the lines are those of its frames
pub record HasHeard (hearing : HearingView) (bytes : List ℕ) : Type 0 where
  pub samples : List Sample
  pub bytes_are : bytes ≡ bytes_of_samples samples ++ hearing.held
  pub are : AreSamples samples
  pub lines : HasLines hearing.receiver hearing.lines samples
  pub count : hearing.count ≡ length bytes
  pub most : hearing.count ≤ most_input
  pub spent : hearing.receiver.spent ≤ 32 * length samples + 512
