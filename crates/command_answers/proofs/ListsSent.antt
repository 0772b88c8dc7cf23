-- Lists of frames that are sent, and received of what is written of them.
use Rattle.std.proofs.Common.{◌≡◌, ℕ, ◌*◌, ◌%◌, ◌<◌, ◌≤◌, List, [], ◌∷◌, ◌++◌, All, ℤ, pos, FitsSigned, length, map, None, sym, subst, arith}
use Rattle.std.proofs.lemmas.Int.{fits_signed_from_abs, ints}
use Rattle.std.proofs.lemmas.List.{length-map}
use Rattle.std.proofs.lemmas.List.Elements.{All-append, All-cons, All-from_get_or, All-head, All-nil, All-replicate, All-tail}
use Rattle.std.specs.Int.{w16}
use Rattle.std.specs.Prelude.{unsigned_abs}
use Rattle.capture_files.proofs.Bytes.{length-bytes_of_samples, samples_back}
use Rattle.capture_files.specs.Captures.{samples_in}
use Rattle.fixed_complex.specs.declared.Sample.{Sample}
use Rattle.fixed_complex.specs.Samples.{AreSamples, IsSample, SamplesWithin}
use Rattle.frame_fields.specs.Frames.{sent_frame}
use Rattle.frame_findings.specs.Walk.{AreFindings}
use Rattle.frame_lists.specs.Items.{Item, frame_from, frames_from, samples_of_items, silence}
use Rattle.frame_lists.specs.Near.{SentFrame, end_of_sent}
use Rattle.frames_in_noise.specs.Laws.{IsFrame, SentListIsHeard, heard_of}
use Rattle.list_texts.specs.Lists.{IsInRange, SaysList}
use Rattle.list_texts.specs.declared.Entry.{Entry}
use Rattle.rate_table.specs.declared.Rate.{Rate}
use Rattle.send_lists.proofs.Samples.{wide_gaps}
use Rattle.send_lists.specs.Sent.{frames_of_list, item_of, samples_of_list}
use Rattle.command_words.specs.declared.Request.TheVariants.{Receive, SendList}
use Rattle.command_answers.specs.InOrder.{passed}
use Rattle.command_answers.specs.Laws.{SentListGivesItsFrames}
use Rattle.command_answers.specs.Listing.{bytes_of_list}
use Rattle.command_answers.specs.Outcome.{of_request}
use Rattle.command_answers.proofs.InNoise.{lines_received}
use Rattle.command_answers.proofs.OfList.{short_list}

-- sent samples are within 25057 in size
abbrev pub SentAreWithin : Type 0
SentAreWithin = (rate : Rate) (seed : ℕ) (psdu : List ℕ) → SamplesWithin 25057 (sent_frame rate seed psdu)

fits : (z : ℤ) → unsigned_abs z ≤ 25057 → FitsSigned w16 z
fits z h = fits_signed_from_abs w16 z (omega (arith, h))

pub are_samples : (samples : List Sample) → SamplesWithin 25057 samples → AreSamples samples
are_samples samples h =
    All-from_get_or IsSample samples (record { i = pos 0; q = pos 0 }) (λ k l. let within = h.each k l in record { i = fits _ within.i; q = fits _ within.q })

silent : IsSample (record { i = pos 0; q = pos 0 })
silent = record { i = omega (arith, ints); q = omega (arith, ints) }

items_are_samples : SentAreWithin → (items : List Item) → AreSamples (samples_of_items items)
unfolding samples_of_items
items_are_samples within [] = All-nil IsSample
items_are_samples within (item ∷ items) =
    let frame : List Sample = sent_frame item.rate item.seed item.psdu in
    let gap : AreSamples (silence item.gap) = All-replicate IsSample item.gap (record { i = pos 0; q = pos 0 }) silent in
    let front : AreSamples (silence item.gap ++ frame) = All-append IsSample (silence item.gap) frame gap (are_samples frame (within item.rate item.seed item.psdu)) in
    All-append IsSample (silence item.gap ++ frame) (samples_of_items items) front (items_are_samples within items)

-- the frames of a list may be sent
frames_may_be_sent : (before : ℕ) (entries : List Entry) → All IsInRange entries → All IsFrame (frames_from before (map item_of entries))
unfolding frames_from
frames_may_be_sent before [] h = All-nil IsFrame
frames_may_be_sent before (entry ∷ entries) h =
    let first : IsInRange entry = All-head IsInRange entry entries h in
    let frame : SentFrame = frame_from before (item_of entry) in
    All-cons IsFrame frame (frames_from (end_of_sent frame) (map item_of entries)) (record { seed = first.seed; long = first.long; octets = first.octets })
    (frames_may_be_sent (end_of_sent frame) entries (All-tail IsInRange entry entries h))

some_frames : (before : ℕ) (entries : List Entry) → 1 ≤ length entries → 0 < length (frames_from before (map item_of entries))
unfolding frames_from
some_frames before [] l = absurd (omega arith)
some_frames before (entry ∷ entries) l = omega arith

heard : SentListIsHeard → (entries : List Entry) (text : List ℕ) → SaysList entries text → AreFindings (samples_of_list entries) (map heard_of (frames_of_list entries)) None
heard hears entries text says =
    hears (map item_of entries) (omega (arith, length-map entries item_of, says.some)) (wide_gaps entries says.in_range) (frames_may_be_sent 0 entries says.in_range)

pub sent_list_received : SentAreWithin → SentListIsHeard → SentListGivesItsFrames
sent_list_received within hears words back text entries h =
    let samples : List Sample = samples_of_list entries in
    let bytes : List ℕ = bytes_of_list entries in
    let size : length bytes ≡ 4 * length samples = length-bytes_of_samples samples in
    let again : samples_in bytes ≡ samples = samples_back samples (items_are_samples within (map item_of entries)) in
    let frames : List SentFrame = frames_of_list entries in
    let found : AreFindings (samples_in bytes) (map heard_of frames) None = subst (λ (s : List Sample). AreFindings s (map heard_of frames) None) (sym again) (heard hears entries text h.says) in
    let even : length bytes % 4 ≡ 0 = omega (arith, size) in (
      of_request SendList (record { said = h.sent; carried = tt }) (passed (λ long. omega (arith, long, h.short)) (short_list text entries h.says h.few)),
      of_request Receive (record { said = h.received; carried = tt })
          (passed (λ long. omega (arith, long, size, h.few)) (passed (λ torn. torn even) (lines_received bytes frames (some_frames 0 entries h.says.some) found))),
    )
