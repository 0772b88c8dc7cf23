-- More samples are heard.
use Rattle.std.proofs.Common.{◌≡◌, ℕ, ◌+◌, ◌*◌, ◌^◌, ◌<◌, ◌≤◌, List, [], ◌∷◌, ◌++◌, length, length-append, append_assoc, append-nil, refl, sym, ap, ◌∙◌, arith}
use Rattle.std.proofs.lemmas.Grind.{flat_map-append}
use Rattle.std.proofs.lemmas.List.Elements.{All-append}
use Rattle.capture_files.specs.Captures.{bytes_of_sample, bytes_of_samples}
use Rattle.capture_files.proofs.Bytes.{length-bytes_so_far}
use Rattle.finding_lines.specs.Laws.{NextLineFits}
use Rattle.finding_lines.specs.Lines.{frame_line, most_text}
use Rattle.fixed_complex.specs.declared.Sample.{Sample}
use Rattle.fixed_complex.specs.Samples.{AreSamples, IsSample}
use Rattle.frame_findings.specs.declared.Heard.{Heard}
use Rattle.frame_receiver.specs.Receiving.{ReceiverView, Stands}
use Rattle.modem_ports.specs.Limits.{most_input}
use Rattle.capture_hearing.specs.Hearing.{HasHeard, HasLines, HearingView}

-- no frame is made whole
pub lines_stay : (old new : ReceiverView) (lines : List ℕ) (before more : List Sample) → ((heard : List Heard) → Stands old before heard → Stands new (before ++ more) heard)
    → HasLines old lines before → HasLines new lines (before ++ more)
lines_stay old new lines before more stands has =
    record { heard = has.heard; stands = stands has.heard has.stands; lines_are = has.lines_are }

-- a frame is made whole
pub lines_grow : (old new : ReceiverView) (lines lines' : List ℕ) (before : List Sample) (sample : Sample) (frame : Heard)
    → ((heard : List Heard) → Stands old before heard → Stands new (before ++ sample ∷ []) (heard ++ frame ∷ [])) → lines' ≡ lines ++ frame_line frame
    → HasLines old lines before → HasLines new lines' (before ++ sample ∷ [])
lines_grow old new lines lines' before sample frame stands put has = record {
  heard = has.heard ++ frame ∷ [];
  stands = stands has.heard has.stands;
  lines_are = rw (put, has.lines_are, flat_map-append frame_line has.heard (frame ∷ []), append-nil (frame_line frame)) refl;
}

-- there is room for the line of a frame
pub line_fits : NextLineFits → (old new : ReceiverView) (lines : List ℕ) (before : List Sample) (sample : Sample) (frame : Heard) (octets : ℕ) → old.tail.count < 2 ^ 24
    → ((heard : List Heard) → Stands old before heard → Stands new (before ++ sample ∷ []) (heard ++ frame ∷ [])) → octets ≡ length frame.psdu
    → HasLines old lines before → length lines + 2 * octets + 51 ≤ most_text
line_fits fits old new lines before sample frame octets below stands same has =
    let stood = stands has.heard has.stands in
    let long : length (before ++ sample ∷ []) ≤ most_text = omega (arith, below, has.stands.tail.count, length-append before (sample ∷ [])) in
    omega (arith, fits (before ++ sample ∷ []) has.heard frame new.from long stood.walks, long, ap length has.lines_are, same)

-- a piece is heard
pub piece_on : (h : HearingView) (bytes piece held : List ℕ) (made : List Sample) (count : ℕ) (receiver : ReceiverView) (lines : List ℕ) → h.count + length piece ≤ most_input
    → count ≡ h.count + length piece → bytes_of_samples made ++ held ≡ h.held ++ piece → AreSamples made
    → ((before : List Sample) → HasLines h.receiver h.lines before → HasLines receiver lines (before ++ made))
    → (h.receiver.spent ≤ 32 * h.receiver.tail.count + 512 → receiver.spent ≤ 32 * receiver.tail.count + 512) → HasHeard h bytes
    → HasHeard (record { count = count; held = held; receiver = receiver; lines = lines }) (bytes ++ piece)
piece_on h bytes piece held made count receiver lines room more fed are hears spent heard =
    let has = hears heard.samples heard.lines in
    let before = bytes_of_samples heard.samples in
    let was = heard.spent in
    let number = heard.lines.stands.tail.count in
    let number_now = has.stands.tail.count in
    record {
      samples = heard.samples ++ made;
      bytes_are = rw (heard.bytes_are, flat_map-append bytes_of_sample heard.samples made)
          (append_assoc before h.held piece ∙ ap (λ l. before ++ l) (sym fed) ∙ sym (append_assoc before (bytes_of_samples made) held));
      are = All-append IsSample heard.samples made heard.are are;
      lines = has;
      count = omega (arith, more, heard.count, length-append bytes piece);
      most = omega (arith, more, room);
      spent = rw (← number_now) (spent (rw number was));
    }

-- how many samples came, and room for those that a piece makes whole
pub few_samples : (h : HearingView) (bytes piece held : List ℕ) (made : List Sample) → h.count + length piece ≤ most_input → bytes_of_samples made ++ held ≡ h.held ++ piece
    → HasHeard h bytes → h.receiver.tail.count + length made ≤ 2 ^ 24
few_samples h bytes piece held made room fed heard =
    omega (
      arith,
      room,
      ap length fed,
      length-bytes_so_far made held,
      length-append h.held piece,
      heard.count,
      ap length heard.bytes_are,
      length-bytes_so_far heard.samples h.held,
      heard.lines.stands.tail.count,
    )
