-- Captures of frames in noise, which are to be received whole (own).
use Rattle.std.specs.Prelude.{◌≡◌, List, ◌++◌, map, All}
use Rattle.fixed_complex.specs.declared.Sample.{Sample}
use Rattle.frame_findings.specs.declared.Heard.{Heard}
use Rattle.frame_lists.specs.Near.{AreNear, SentFrame}
use Rattle.frames_in_noise.specs.Laws.{IsFrame, heard_of, noise_bound_of}

-- a capture is near frames that may be sent, each within the noise bound of its rate, and within 64 of silence elsewhere
pub record HasInNoise (capture : List Sample) (frames : List SentFrame) : Type 0 where
  pub may_be_sent : All IsFrame frames
  pub near : AreNear noise_bound_of 64 capture frames

-- what was heard are the first of frames
abbrev pub AreFirst : List Heard → List SentFrame → Type 0
AreFirst heard frames = (behind : List Heard) × (map heard_of frames ≡ heard ++ behind)
