-- What the laws of frames in echoes state (own).
use Rattle.std.specs.Prelude.{◌≡◌, ℕ, ◌+◌, ◌*◌, ◌<◌, ◌≤◌, List, drop, length, All, Ok}
use Rattle.fixed_complex.specs.declared.Cx.{Cx}
use Rattle.fixed_complex.specs.declared.Sample.{Sample}
use Rattle.fixed_complex.specs.PairLists.{entry}
use Rattle.fixed_complex.specs.Pairs.{rounded_pair}
use Rattle.fixed_complex.specs.Samples.{AreSamples, as_sample, pair_at}
use Rattle.rate_table.specs.Symbols.{symbol_count}
use Rattle.rate_table.specs.Table.{row_of}
use Rattle.carrier_bins.specs.Bins.{by_bin}
use Rattle.training_fields.specs.Training.{long_carrier}
use Rattle.frame_search.specs.Match.{part}
use Rattle.carrier_equaliser.specs.Received.{received}
use Rattle.echo_taps.specs.Echoes.{echo_of, gathered, held_sample}
use Rattle.echo_taps.specs.Taps.{IsEcho}
use Rattle.echo_channels.specs.Laws.{IsNearSent}
use Rattle.symbols_in_echoes.specs.Laws.{echo_bound_of}
use Rattle.frame_fields.specs.Frames.{frame_bin}
use Rattle.frame_lists.specs.Items.{Item, frames_from, samples_of_items}
use Rattle.frame_lists.specs.Near.{AreNear, SentFrame, sent_of}
use Rattle.frame_reader.specs.Decisions.{body_of, plain_decisions}
use Rattle.frame_reader.specs.Frames.{HasField, SaysHeader}
use Rattle.exact_decisions.specs.Laws.{sent_header}
use Rattle.frame_starts.specs.Starts.{IsFrameAt}
use Rattle.frames_in_noise.specs.Laws.{IsFrame, heard_of}
use Rattle.frames_in_echoes.specs.Waves.{BeginsNearEchoed}

-- the carriers of both long bodies, which stand at 192 and 256, come back over their channels
abbrev pub LongBodiesComeBack : Type 0
LongBodiesComeBack =
    (bound : ℕ) (taps : List Cx) (samples : List Sample) (frame : SentFrame) (bin : ℕ)
    → IsEcho taps → AreSamples samples → BeginsNearEchoed bound taps samples frame → bin < 64
    → IsNearSent bound taps bin (by_bin long_carrier bin) (entry (received (part samples 192 64)) bin)
    × IsNearSent bound taps bin (by_bin long_carrier bin) (entry (received (part samples 256 64)) bin)

-- and so do those of each symbol
abbrev pub SymbolsComeBack : Type 0
SymbolsComeBack =
    (bound : ℕ) (taps : List Cx) (samples : List Sample) (frame : SentFrame) (n bin : ℕ)
    → IsEcho taps → AreSamples samples → BeginsNearEchoed bound taps samples frame
    → n ≤ symbol_count (row_of frame.rate).field_bits (length frame.psdu) → bin < 64
    → IsNearSent bound taps bin (frame_bin frame.rate frame.seed frame.psdu n bin)
    (entry (received (body_of samples n)) bin)

-- samples say, by their plain decisions, the header of a frame, and have its seed and its PSDU as field
abbrev pub IsReadFrom : List Sample → SentFrame → Type 0
IsReadFrom samples frame =
    let header = sent_header frame.rate frame.psdu in
    let decisions = plain_decisions samples in
    SaysHeader decisions (Ok header) × HasField decisions header frame.seed frame.psdu

-- so do samples that begin within half the noise bound of its rate of the echoed frame
abbrev pub EchoedFrameIsRead : Type 0
EchoedFrameIsRead =
    (bound : ℕ) (taps : List Cx) (samples : List Sample) (frame : SentFrame) → IsEcho taps
    → IsFrame frame → bound ≤ echo_bound_of frame.rate → BeginsNearEchoed bound taps samples frame
    → IsReadFrom samples frame

-- the echo of a frame's sent samples is near the echoed frame
abbrev pub EchoIsNear : Type 0
EchoIsNear =
    (taps : List Cx) (frame : SentFrame) → IsEcho taps
    → BeginsNearEchoed 2 taps (echo_of taps (sent_of frame)) frame

-- at each place it is what comes together there, over 1024 and rounded half up, with nothing held
abbrev pub EchoIsNotHeld : Type 0
EchoIsNotHeld =
    (taps : List Cx) (frame : SentFrame) (place : ℕ) → IsEcho taps
    → held_sample (gathered taps (pair_at (sent_of frame)) place)
    ≡ as_sample (rounded_pair 10 (gathered taps (pair_at (sent_of frame)) place))

-- and it is read as the frame that was sent
abbrev pub EchoIsRead : Type 0
EchoIsRead =
    (taps : List Cx) (frame : SentFrame) → IsEcho taps → IsFrame frame
    → IsReadFrom (echo_of taps (sent_of frame)) frame

-- samples begin, from a frame's start on, near the echoed frame
abbrev pub StartsNearEchoed : ℕ → List Cx → List Sample → SentFrame → Type 0
StartsNearEchoed bound taps capture frame = BeginsNearEchoed bound taps (drop frame.start capture) frame

-- what is read at a frame's start, by the plain decisions, is the frame
abbrev pub IsThere : List Sample → SentFrame → Type 0
IsThere capture frame = IsFrameAt plain_decisions capture frame.start (Ok (heard_of frame))

-- so the frame at the start of an echoed frame is the one that was sent
abbrev pub EchoedFrameIsThere : Type 0
EchoedFrameIsThere =
    (bound : ℕ) (taps : List Cx) (capture : List Sample) (frame : SentFrame) → IsEcho taps
    → IsFrame frame → bound ≤ echo_bound_of frame.rate
    → StartsNearEchoed bound taps capture frame → IsThere capture frame

-- and so is the frame at the start of the echo of a frame's sent samples
abbrev pub EchoIsThere : Type 0
EchoIsThere =
    (taps : List Cx) (frame : SentFrame) → IsEcho taps → IsFrame frame → frame.start ≡ 0
    → IsFrameAt plain_decisions (echo_of taps (sent_of frame)) 0 (Ok (heard_of frame))

-- the echo of a capture that is within a bound of frames in silence begins, at the start of each, near the echoed frame,
-- within 1.25 times the bound, and half
abbrev pub EchoOfCaptureIsNear : Type 0
EchoOfCaptureIsNear =
    (taps : List Cx) (bound louder : ℕ) (capture : List Sample) (frames : List SentFrame)
    → IsEcho taps → bound ≤ 1000 → 1280 * bound + 512 ≤ 1024 * louder
    → AreNear (λ _. bound) bound capture frames
    → All (StartsNearEchoed louder taps (echo_of taps capture)) frames

-- where that is within half the noise bound of the rate of each, the frame at the start of each is the one that was sent
abbrev pub EchoOfCaptureIsThere : Type 0
EchoOfCaptureIsThere =
    (taps : List Cx) (bound : ℕ) (capture : List Sample) (frames : List SentFrame) → IsEcho taps
    → All IsFrame frames
    → All (λ (frame : SentFrame). 1280 * bound + 512 ≤ 1024 * echo_bound_of frame.rate) frames
    → AreNear (λ _. bound) bound capture frames
    → All (IsThere (echo_of taps capture)) frames

-- so it is in the echo of the samples of a list in which the gaps but the first are at least 16
abbrev pub EchoOfListIsThere : Type 0
EchoOfListIsThere =
    (taps : List Cx) (items : List Item) → IsEcho taps → 0 < length items
    → All (λ (item : Item). 16 ≤ item.gap) (drop 1 items) → All IsFrame (frames_from 0 items)
    → All (IsThere (echo_of taps (samples_of_items items))) (frames_from 0 items)
