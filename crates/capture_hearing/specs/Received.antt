-- What is received of the bytes of a capture (own).
use Rattle.std.specs.Prelude.{◌≡◌, ℕ, ◌%◌, ◌<◌, ◌≤◌, List, [], ◌∷◌, length, Option, Some, None, Result, Ok, Err}
use Rattle.capture_files.specs.Captures.{IsTorn, samples_in}
use Rattle.finding_lines.specs.Lines.{text_of_findings}
use Rattle.frame_findings.specs.declared.Cut.{Cut}
use Rattle.frame_findings.specs.declared.Heard.{Heard}
use Rattle.frame_findings.specs.Walk.{AreFindings}
use Rattle.modem_ports.specs.Limits.{most_input}
use Rattle.report_lines.specs.declared.Refusal.{Refusal}
use Rattle.report_lines.specs.declared.Refusal.TheVariants.{CutFrame, LongCapture, NoFrame, TornCapture}

-- what comes of findings: where the first isn't a whole frame, the refusal that says so, else their text
abbrev pub received_of : List Heard → Option Cut → Result (List ℕ) Refusal
received_of [] None = Err NoFrame
received_of [] (Some cut) = Err (CutFrame cut.start cut.have cut.need)
received_of (first ∷ heard) cut = Ok (text_of_findings (first ∷ heard) cut)

-- what is received of bytes, in the order of the refusals: more than 67108864 are refused as too long;
-- else those that aren't whole samples, as torn; else it is what comes of the findings of their samples
pub data IsReceived (bytes : List ℕ) (answer : Result (List ℕ) Refusal) : Type 0 where
  long : most_input < length bytes → answer ≡ Err LongCapture → IsReceived bytes answer
  torn : length bytes ≤ most_input → IsTorn (length bytes)
      → answer ≡ Err (TornCapture (length bytes)) → IsReceived bytes answer
  whole : length bytes ≤ most_input → length bytes % 4 ≡ 0 → (heard : List Heard)
      → (cut : Option Cut) → AreFindings (samples_in bytes) heard cut
      → answer ≡ received_of heard cut → IsReceived bytes answer
