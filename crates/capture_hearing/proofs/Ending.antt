-- What is received where a capture ends.
use Rattle.std.proofs.Common.{◌≡◌, ◌≢◌, ℕ, ◌+◌, ◌*◌, ◌%◌, ◌<◌, ◌≤◌, List, [], ◌∷◌, length, length-append, append-nil, Option, Some, Result, Ok, Err, refl, ap, arith}
use Rattle.std.specs.List.{flat_map}
use Rattle.capture_files.specs.Captures.{IsTorn, bytes_of_samples, samples_in}
use Rattle.capture_files.proofs.Bytes.{length-bytes_of_samples, samples_back}
use Rattle.finding_lines.specs.Laws.{CutLineFits}
use Rattle.finding_lines.specs.Lines.{frame_line, most_text, text_of_findings}
use Rattle.fixed_complex.specs.declared.Sample.{Sample}
use Rattle.frame_findings.specs.declared.Cut.{Cut}
use Rattle.frame_findings.specs.declared.Heard.{Heard}
use Rattle.frame_findings.specs.Walk.{AreFindings}
use Rattle.frame_receiver.specs.Receiving.{Stands}
use Rattle.modem_ports.specs.Limits.{most_input}
use Rattle.report_lines.specs.declared.Refusal.{Refusal}
use Rattle.report_lines.specs.declared.Refusal.TheVariants.{TornCapture}
use Rattle.capture_hearing.specs.Hearing.{HasHeard, HearingView}
use Rattle.capture_hearing.specs.Received.{IsReceived, received_of, torn, whole}

-- how many bytes came
pub bytes_count : (h : HearingView) (bytes : List ℕ) → (heard : HasHeard h bytes) → length bytes ≡ 4 * length heard.samples + length h.held
bytes_count h bytes heard =
    omega (
      arith,
      ap length heard.bytes_are,
      length-append (bytes_of_samples heard.samples) h.held,
      length-bytes_of_samples heard.samples,
    )

-- the bytes aren't whole samples
pub ends_torn : (h : HearingView) (bytes : List ℕ) (count : ℕ) → HasHeard h bytes → length h.held ≢ 0 → length h.held ≤ 3 → count ≡ h.count → IsReceived bytes (Err (TornCapture count))
ends_torn h bytes count heard some few is =
    let n = bytes_count h bytes heard in
    let most : length bytes ≤ most_input = omega (arith, heard.count, heard.most) in
    let left : IsTorn (length bytes) = λ none. some (omega (arith, n, few, none)) in
    torn most left (rw (is, heard.count) refl)

-- an empty list
nothing : (held : List ℕ) → length held ≡ 0 → held ≡ []
nothing [] none = refl
nothing (byte ∷ held) none = absurd (omega arith)

-- they are, and the answer is that of their findings
pub ends_whole : (h : HearingView) (bytes : List ℕ) (cut : Option Cut) (answer : Result (List ℕ) Refusal) → (heard : HasHeard h bytes) → length h.held ≡ 0
    → ((samples : List Sample) (frames : List Heard) → Stands h.receiver samples frames → AreFindings samples frames cut)
    → answer ≡ received_of heard.lines.heard cut → IsReceived bytes answer
ends_whole h bytes cut answer heard none ends is =
    let n = bytes_count h bytes heard in
    let most : length bytes ≤ most_input = omega (arith, heard.count, heard.most) in
    let even : length bytes % 4 ≡ 0 = omega (arith, n, none) in
    let are : bytes ≡ bytes_of_samples heard.samples = rw (heard.bytes_are, nothing h.held none) (append-nil (bytes_of_samples heard.samples)) in
    let same : samples_in bytes ≡ heard.samples = rw are (samples_back heard.samples heard.are) in
    whole most even heard.lines.heard cut (rw same (ends heard.samples heard.lines.heard heard.lines.stands)) is

-- a line has a byte
begins_some : (line : List ℕ) (first : ℕ) (rest : List ℕ) → line ≡ first ∷ rest → 0 < length line
begins_some line first rest is = omega (arith, ap length is)

line_some : (heard : Heard) → 0 < length (frame_line heard)
line_some heard = begins_some (frame_line heard) _ _ refl

-- no lines are those of no frames
pub no_lines : (heard : List Heard) (lines : List ℕ) → lines ≡ flat_map frame_line heard → length lines ≡ 0 → heard ≡ []
no_lines [] lines is none = refl
no_lines (first ∷ heard) lines is none = absurd (omega (arith, none, ap length is, length-append (frame_line first) (flat_map frame_line heard), line_some first))

-- some lines are those of some frames, whose text is what is received
pub some_lines : (heard : List Heard) (lines : List ℕ) (cut : Option Cut) (text : List ℕ) → lines ≡ flat_map frame_line heard → length lines ≢ 0 → text ≡ text_of_findings heard cut
    → Ok text ≡ received_of heard cut
some_lines [] lines cut text is some made = absurd (some (ap length is))
some_lines (first ∷ heard) lines cut text is some made = rw made refl

-- there is room for the line of a cut
pub cut_fits : CutLineFits → (h : HearingView) (bytes : List ℕ) (cut : Cut) → HasHeard h bytes
    → ((samples : List Sample) (frames : List Heard) → Stands h.receiver samples frames → AreFindings samples frames (Some cut)) → length h.lines + 37 ≤ most_text
cut_fits fits h bytes cut heard ends =
    let n = bytes_count h bytes heard in
    let few : length heard.samples ≤ most_text = omega (arith, n, heard.count, heard.most) in
    omega (arith, few, ap length heard.lines.lines_are, fits heard.samples heard.lines.heard cut few (ends heard.samples heard.lines.heard heard.lines.stands))
