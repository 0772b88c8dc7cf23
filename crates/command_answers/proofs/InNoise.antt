-- The outcome of a capture of frames in noise.
use Rattle.std.proofs.Common.{◌<◌, ℕ, List, [], ◌∷◌, length, map, None, refl, arith}
use Rattle.capture_files.specs.Captures.{samples_in}
use Rattle.frame_findings.specs.Walk.{AreFindings}
use Rattle.frame_lists.specs.Near.{SentFrame}
use Rattle.frames_in_noise.specs.Laws.{NoiseIsWithstood, heard_of}
use Rattle.command_words.specs.declared.Request.TheVariants.{Receive}
use Rattle.command_answers.specs.InNoise.{lines_of}
use Rattle.command_answers.specs.InOrder.{Writes, passed}
use Rattle.command_answers.specs.Laws.{CaptureInNoiseGivesItsFrames}
use Rattle.command_answers.specs.Outcome.{of_request}
use Rattle.command_answers.specs.Receiving.{HasReceived}

-- of findings without a cut, of which there are some, the lines are written
pub lines_received : (bytes : List ℕ) (frames : List SentFrame) → 0 < length frames → AreFindings (samples_in bytes) (map heard_of frames) None → HasReceived (samples_in bytes) (Writes (lines_of frames))
lines_received bytes [] some found = absurd (omega (arith, some))
lines_received bytes (first ∷ frames) some found = (map heard_of (first ∷ frames), None, found, refl)

pub outcome_in_noise : NoiseIsWithstood → CaptureInNoiseGivesItsFrames
outcome_in_noise withstood words bytes frames h =
    let found = withstood (samples_in bytes) frames h.in_noise.may_be_sent h.in_noise.near in
    of_request Receive (record { said = h.asked; carried = tt }) (passed (λ long. omega (arith, long, h.short)) (passed (λ torn. torn h.even) (lines_received bytes frames h.in_noise.near.some found)))
