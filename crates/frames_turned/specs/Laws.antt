-- What the laws of frames with turns state (own).
use Rattle.std.specs.Prelude.{◌≡◌, ℕ, ◌-◌, ◌/◌, ◌<◌, ◌≤◌, List, drop, Ok}
use Rattle.fixed_complex.specs.declared.Cx.{Cx}
use Rattle.fixed_complex.specs.declared.Sample.{Sample}
use Rattle.fixed_complex.specs.Pairs.{scaled_product}
use Rattle.fixed_complex.specs.Samples.{as_sample, pair_of, sample_at}
use Rattle.rate_table.specs.Table.{row_of}
use Rattle.pilot_turns.specs.Turned.{phase_bound_of}
use Rattle.symbol_turns.specs.Turning.{turn_of_symbol, turned_sample, turned_samples}
use Rattle.frame_search.specs.Match.{part}
use Rattle.frame_fields.specs.Frames.{sent_frame}
use Rattle.frame_lists.specs.Near.{SentFrame, samples_of}
use Rattle.frame_reader.specs.Decisions.{decisions_by}
use Rattle.frame_reader.specs.Frames.{HasField, SaysHeader}
use Rattle.exact_decisions.specs.Laws.{sent_header}
use Rattle.frame_starts.specs.Starts.{IsFrameAt}
use Rattle.frames_in_noise.specs.Laws.{IsFrame, heard_of}
use Rattle.frames_turned.specs.Deciding.{phase_decided}
use Rattle.frames_turned.specs.Waves.{AreTurns, BeginsNearTurned}

-- samples say, by their phase decisions, the header of a frame, and have its seed and its PSDU as field
abbrev pub IsReadByPhase : List Sample → SentFrame → Type 0
IsReadByPhase samples frame =
    let header = sent_header frame.rate frame.psdu in
    let decisions = decisions_by phase_decided samples in
    SaysHeader decisions (Ok header) × HasField decisions header frame.seed frame.psdu

-- the phase bound of a frame's rate
abbrev pub bound_of : SentFrame → ℕ
bound_of frame = phase_bound_of (row_of frame.rate).modulation

-- so do samples that begin within the phase bound of its rate of the frame's waveform with turns
abbrev pub TurnedFrameIsRead : Type 0
TurnedFrameIsRead =
    (bound : ℕ) (turns : ℕ → Cx) (samples : List Sample) (frame : SentFrame) → IsFrame frame
    → bound ≤ bound_of frame → AreTurns turns frame → BeginsNearTurned bound turns samples frame
    → IsReadByPhase samples frame

-- samples hold a frame's sent samples from a place on
abbrev pub HoldsFrame : ℕ → List Sample → SentFrame → Type 0
HoldsFrame start samples frame =
    part samples start (samples_of frame) ≡ sent_frame frame.rate frame.seed frame.psdu

-- nothing of a frame's symbols is held, once they are turned: each sample is its product with the turn over 2^20, rounded
-- half up
abbrev pub TurnedIsNotHeld : Type 0
TurnedIsNotHeld =
    (step time : ℕ) (frame : SentFrame) → 320 ≤ time → time < samples_of frame
    → let turn = turn_of_symbol step ((time - 320) / 80) in
    let sample = sample_at (sent_frame frame.rate frame.seed frame.psdu) time in
    turned_sample turn sample ≡ as_sample (scaled_product turn (pair_of sample))

-- the turned samples of a frame are near its waveform with turns
abbrev pub TurnedIsNear : Type 0
TurnedIsNear =
    (start step : ℕ) (samples : List Sample) (frame : SentFrame) → HoldsFrame start samples frame
    → BeginsNearTurned 2 (turn_of_symbol step) (drop start (turned_samples start step samples)) frame

-- and they are read as the frame that was sent
abbrev pub TurnedIsRead : Type 0
TurnedIsRead =
    (start step : ℕ) (samples : List Sample) (frame : SentFrame) → IsFrame frame
    → HoldsFrame start samples frame
    → IsReadByPhase (drop start (turned_samples start step samples)) frame

-- so the frame at the start of a frame with turns is the one that was sent
abbrev pub TurnedFrameIsThere : Type 0
TurnedFrameIsThere =
    (bound : ℕ) (turns : ℕ → Cx) (capture : List Sample) (frame : SentFrame) → IsFrame frame
    → bound ≤ bound_of frame → AreTurns turns frame
    → BeginsNearTurned bound turns (drop frame.start capture) frame
    → IsFrameAt (decisions_by phase_decided) capture frame.start (Ok (heard_of frame))

-- and so is the frame at its start in samples that hold it, turned from there on
abbrev pub TurnedIsThere : Type 0
TurnedIsThere =
    (step : ℕ) (samples : List Sample) (frame : SentFrame) → IsFrame frame
    → HoldsFrame frame.start samples frame
    → IsFrameAt (decisions_by phase_decided) (turned_samples frame.start step samples) frame.start
    (Ok (heard_of frame))
