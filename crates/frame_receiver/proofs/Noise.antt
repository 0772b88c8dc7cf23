-- What the findings of a capture of frames in noise are.
use Rattle.std.proofs.Common.{◌≡◌, List, [], length, map, ap, ◌∙◌, arith}
use Rattle.std.specs.Prelude.{Option, None}
use Rattle.std.proofs.lemmas.List.{length-map}
use Rattle.fixed_complex.specs.declared.Sample.{Sample}
use Rattle.frame_findings.specs.declared.Cut.{Cut}
use Rattle.frame_findings.specs.declared.Heard.{Heard}
use Rattle.frame_findings.specs.Walk.{AreFindings}
use Rattle.frame_lists.specs.Near.{SentFrame}
use Rattle.frames_in_noise.specs.Laws.{heard_of}
use Rattle.frames_in_noise.proofs.Walking.{nothing_else_is_found}
use Rattle.frame_receiver.specs.Noise.{HasInNoise}

pub found_in_noise : (capture : List Sample) (frames : List SentFrame) (heard : List Heard) (cut : Option Cut) → HasInNoise capture frames → AreFindings capture heard cut → (heard ≡ map heard_of frames) × (cut ≡ None)
found_in_noise capture frames heard cut has findings = nothing_else_is_found capture frames heard cut has.may_be_sent has.near findings

-- so there are some
pub some_in_noise : (capture : List Sample) (frames : List SentFrame) (cut : Option Cut) → HasInNoise capture frames → AreFindings capture [] cut → ⊥
some_in_noise capture frames cut has findings =
    let same = (found_in_noise capture frames [] cut has findings).0 in
    let none : 0 ≡ length frames = ap length same ∙ length-map frames heard_of in
    let some = has.near.some in
    omega arith
