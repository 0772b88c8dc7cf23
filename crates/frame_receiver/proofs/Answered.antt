-- What a receiver that stands for samples answers, said by findings, and of captures in noise.
use Rattle.std.proofs.Common.{◌≡◌, ℕ, ◌-◌, ◌∙◌, List, [], ◌∷◌, ◌++◌, length, map, ap, sym, refl, arith}
use Rattle.std.specs.Prelude.{Option, Some, None}
use Rattle.std.proofs.lemmas.List.{append_assoc}
use Rattle.fixed_complex.specs.declared.Cx.{Cx}
use Rattle.fixed_complex.specs.declared.Sample.{Sample}
use Rattle.survivor_memory.specs.Survivors.{MemoryView}
use Rattle.frame_reader.specs.Frames.{need_of}
use Rattle.frame_findings.specs.declared.Cut.{Cut}
use Rattle.frame_findings.specs.declared.Heard.{Heard}
use Rattle.frame_findings.specs.Walk.{AreFindings, CutsNext, Ends, Walks}
use Rattle.frame_findings.proofs.Walking.{frames_stay, one_findings}
use Rattle.frame_lists.specs.Near.{SentFrame}
use Rattle.frames_in_noise.specs.Laws.{heard_of}
use Rattle.frames_in_noise.proofs.Walking.{noise_is_withstood}
use Rattle.frame_receiver.specs.declared.receiver.At.{At}
use Rattle.frame_receiver.specs.declared.receiver.Found.{Found}
use Rattle.frame_receiver.specs.Noise.{AreFirst, HasInNoise}
use Rattle.frame_receiver.specs.Receiving.{FramesGrow, IsIn, IsWithin, ReceiverView, Stands, heard_with}
use Rattle.frame_receiver.proofs.Noise.{found_in_noise}

-- within a frame the samples end in it
cut_as : (samples : List Sample) (from : ℕ) (at : At) (estimate : List Cx) (trellis : MemoryView) → IsWithin samples from at estimate trellis
    → (cut : Cut) × CutsNext samples from cut
cut_as samples from at estimate trellis within =
    let whole = within.whole in
    let not_whole = within.not_whole in
    let more = within.more in (
      record { start = at.place; have = length samples - at.place; need = need_of at.header },
      record {
        header = at.header;
        next = within.next;
        have = omega arith;
        need = refl;
        short = omega arith;
      },
    )

-- how the walk of a receiver ends
ends_as : (samples : List Sample) (receiver : ReceiverView) (at : Option At) → IsIn samples receiver at → (cut : Option Cut) × Ends samples receiver.from cut
ends_as samples receiver None state = (None, state.none)
ends_as samples receiver (Some at) state =
    let cut = cut_as samples receiver.from at receiver.estimate receiver.trellis state in
    (Some cut.0, cut.1)

-- what it stands for are findings
findings_of : (receiver : ReceiverView) (samples : List Sample) (heard : List Heard) → Stands receiver samples heard → (cut : Option Cut) × AreFindings samples heard cut
findings_of receiver samples heard stands =
    let end = ends_as samples receiver receiver.at stands.state in
    (end.0, record { upto = receiver.from; walks = stands.walks; ends = end.1 })

-- so the frames of all findings grow by what it answers
pub frames_grow : (old new : ReceiverView) (samples : List Sample) (sample : Sample) (heard : List Heard) (found : Option Found) (psdu : List ℕ)
    → Stands old samples heard → Stands new (samples ++ sample ∷ []) (heard_with heard found psdu) → FramesGrow samples sample found psdu
frames_grow old new samples sample heard found psdu stood stands before after cut end first second =
    let had = findings_of old samples heard stood in
    let has = findings_of new (samples ++ sample ∷ []) (heard_with heard found psdu) stands in
    let front = (one_findings samples before heard cut had.0 first had.1).0 in
    let whole = (one_findings (samples ++ sample ∷ []) after (heard_with heard found psdu) end has.0 second has.1).0 in
    whole ∙ ap (λ list. heard_with list found psdu) (sym front)

-- of a capture in noise they are the first of its frames
pub first_in_noise : (new : ReceiverView) (samples more : List Sample) (sample : Sample) (heard : List Heard) (frames : List SentFrame)
    → Stands new (samples ++ sample ∷ []) heard → HasInNoise (samples ++ sample ∷ more) frames → AreFirst heard frames
first_in_noise new samples more sample heard frames stands has =
    let front = findings_of new (samples ++ sample ∷ []) heard stands in
    let all = noise_is_withstood (samples ++ sample ∷ more) frames has.may_be_sent has.near in
    let same : (samples ++ sample ∷ []) ++ more ≡ samples ++ sample ∷ more = append_assoc samples (sample ∷ []) more in
    frames_stay (samples ++ sample ∷ []) more heard (map heard_of frames) front.0 None front.1 (rw (sym same) at all)

-- where that capture ends they are all of them
pub all_in_noise : (receiver : ReceiverView) (samples : List Sample) (heard : List Heard) (frames : List SentFrame) → Stands receiver samples heard
    → HasInNoise samples frames → heard ≡ map heard_of frames
all_in_noise receiver samples heard frames stands has =
    let found = findings_of receiver samples heard stands in
    (found_in_noise samples frames heard found.0 has found.1).0

-- and it isn't within a frame
pub none_begun : (samples : List Sample) (heard : List Heard) (frames : List SentFrame) (from : ℕ) (at : At) (estimate : List Cx) (trellis : MemoryView)
    → Walks samples 0 heard from → IsWithin samples from at estimate trellis → HasInNoise samples frames → ⊥
none_begun samples heard frames from at estimate trellis walks within has =
    let cut = cut_as samples from at estimate trellis within in
    let none : Some cut.0 ≡ None = (found_in_noise samples frames heard (Some cut.0) has (record { upto = from; walks = walks; ends = cut.1 })).1 in
    absurd (cc)
