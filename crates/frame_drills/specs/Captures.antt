-- The two captures of a drilled frame, and what comes back of them (own).
use Rattle.std.specs.Prelude.{ℕ, ◌-◌, List, [], ◌∷◌, None}
use Rattle.fixed_complex.specs.declared.Sample.{Sample}
use Rattle.frame_fields.specs.Frames.{sent_frame}
use Rattle.frame_findings.specs.Walk.{AreFindings}
use Rattle.frame_lists.specs.Near.{SentFrame}
use Rattle.frames_in_noise.specs.Laws.{heard_of, noise_bound_of}
use Rattle.noise_script.specs.Effects.{after_items}
use Rattle.noise_script.specs.declared.Item.TheVariants.{Lead, Trail, Uniform}
use Rattle.frame_drills.specs.Draws.{drawn}

-- the sent samples of a frame after the script `lead START; uniform BOUND SEED; trail 100`
unfoldable pub scripted : ℕ → ℕ → SentFrame → List Sample
scripted bound seed frame =
    after_items (Lead frame.start ∷ Uniform bound seed ∷ Trail 100 ∷ [])
    (sent_frame frame.rate frame.seed frame.psdu)

-- the first capture of a frame's number: its noise is the noise bound of the rate less 1
abbrev pub first_capture : ℕ → List Sample
first_capture number = scripted (noise_bound_of (drawn number) - 1) number (drawn number)

-- and the second: its noise is 256, which is above every noise bound
abbrev pub second_capture : ℕ → List Sample
second_capture number = scripted 256 number (drawn number)

-- a frame comes back of a capture: exactly it is received, and no cut
abbrev pub ComesBack : List Sample → SentFrame → Type 0
ComesBack capture frame = AreFindings capture (heard_of frame ∷ []) None
