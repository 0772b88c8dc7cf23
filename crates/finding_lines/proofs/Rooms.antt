-- How many bytes lines have, and how many samples their frames.
use Rattle.std.proofs.Common.{◌≡◌, ℕ, ◌+◌, ◌*◌, ◌/◌, ◌^◌, ◌<◌, ◌≤◌, List, [], ◌∷◌, ◌++◌, length, length-append, take, drop, lit<, arith}
use Rattle.std.specs.List.{flat_map}
use Rattle.std.specs.Prelude.{codes, decimal}
use Rattle.std.proofs.lemmas.Fmt.{length-decimal-le}
use Rattle.std.proofs.lemmas.List.{length-take}
use Rattle.std.proofs.lemmas.List.FromFn.{length-map-range_with_len}
use Rattle.hex.proofs.HexLemmas.{length-encode_with}
use Rattle.hex.specs.Hex.{encode_lower, lower_digits}
use Rattle.bit_lists.specs.Bits.{octet_at, octets_of_bits}
use Rattle.fixed_complex.specs.declared.Sample.{Sample}
use Rattle.ofdm_scrambler.specs.Sequence.{scrambled}
use Rattle.rate_table.proofs.ByRate.{by_rate}
use Rattle.rate_table.specs.declared.Rate.{Rate}
use Rattle.rate_table.specs.Symbols.{symbol_count}
use Rattle.rate_table.specs.Table.{row_of}
use Rattle.frame_findings.specs.declared.Heard.{Heard}
use Rattle.frame_findings.specs.Walk.{HearsNext, Walks, end_of}
use Rattle.finding_lines.specs.Laws.{CutLineFits, NextLineFits, line_room}
use Rattle.finding_lines.specs.Lines.{frame_line, most_text, spaced}

-- octets are at most an eighth of the bits that they are taken of
octets_few : (octets : ℕ) (bits : List ℕ) → length (octets_of_bits (take (8 * octets) bits)) ≤ octets
unfolding octets_of_bits
octets_few octets bits =
    let front : List ℕ = take (8 * octets) bits in
    omega (arith, length-map-range_with_len (λ k. octet_at front (8 * k)) 0 (length front / 8), length-take (8 * octets) bits)

-- a frame has more samples than its line has bytes
frame_is_long : (rate : Rate) (octets : ℕ) → 2 * octets + 51 ≤ 400 + 80 * symbol_count (row_of rate).field_bits octets
frame_is_long rate octets =
    by_rate (λ r. 2 * octets + 51 ≤ 400 + 80 * symbol_count (row_of r).field_bits octets) (omega arith) (omega arith) (omega arith) (omega arith) (omega arith) (omega arith) (omega arith) (omega arith) rate

-- a number with a space has at most 11 bytes
spaced_short : (number : ℕ) → number < 10 ^ 10 → length (spaced number) ≤ 11
spaced_short number small = omega (arith, length-append (decimal number) (32 ∷ []), length-decimal-le 10 number (lit< tt) small (omega (arith, small)))

rate_small : (rate : Rate) → (row_of rate).mbps < 10 ^ 10
rate_small = by_rate (λ rate. (row_of rate).mbps < 10 ^ 10) (lit< tt) (lit< tt) (lit< tt) (lit< tt) (lit< tt) (lit< tt) (lit< tt) (lit< tt)

-- a word, four numbers, digits and the end of a line
line_length : (word a b c d digits : List ℕ) → length (word ++ a ++ b ++ c ++ d ++ digits ++ 10 ∷ []) ≡ length word + length a + length b + length c + length d + length digits + 1
line_length word a b c d digits =
    omega (
      arith,
      length-append word a,
      length-append (word ++ a) b,
      length-append (word ++ a ++ b) c,
      length-append (word ++ a ++ b ++ c) d,
      length-append (word ++ a ++ b ++ c ++ d) digits,
      length-append (word ++ a ++ b ++ c ++ d ++ digits) (10 ∷ []),
    )

line_short : (heard : Heard) → heard.start < 10 ^ 10 → heard.length < 10 ^ 10 → heard.seed < 10 ^ 10 → length (frame_line heard) ≤ line_room heard
line_short heard start octets seed =
    omega (
      arith,
      line_length (codes "frame ") (spaced heard.start) (spaced (row_of heard.rate).mbps) (spaced heard.length) (spaced heard.seed) (encode_lower heard.psdu),
      length-encode_with lower_digits heard.psdu,
      spaced_short heard.start start,
      spaced_short (row_of heard.rate).mbps (rate_small heard.rate),
      spaced_short heard.length octets,
      spaced_short heard.seed seed,
    )

-- what the next frame says of places: where it begins, what room its line takes, where it ends
record Fits (capture : List Sample) (from : ℕ) (heard : Heard) : Type 0 where
  pub least : from ≤ heard.start
  pub room : heard.start + line_room heard ≤ end_of heard
  pub whole : end_of heard ≤ length capture
  pub line : length (frame_line heard) ≤ line_room heard

next_fits : (capture : List Sample) (from : ℕ) (heard : Heard) → length capture ≤ most_text → HearsNext capture from heard → Fits capture from heard
next_fits capture from heard most h =
    let long : 2 * heard.length + 51 ≤ 400 + 80 * symbol_count (row_of heard.rate).field_bits heard.length = frame_is_long heard.rate heard.length in
    let few : length heard.psdu ≤ heard.length = rw (h.frame.field.1.psdu_is, h.frame.octets) (octets_few h.header.length (drop 16 (scrambled heard.seed h.frame.field.1.bits))) in
    let whole : end_of heard ≤ length capture = rw (h.frame.rate, h.frame.octets) h.frame.whole in
    record {
      least = h.next.least;
      room = omega (arith, long, few);
      whole = whole;
      line = line_short heard (omega (arith, whole, most)) (omega (arith, whole, most, long)) (omega (arith, h.frame.field.1.names.seven_bits));
    }

-- the lines of frames have no more bytes than samples stand up to where the last one ends
lines_short : (capture : List Sample) (from : ℕ) (heard : List Heard) (upto : ℕ) → length capture ≤ most_text → Walks capture from heard upto
    → from + length (flat_map frame_line heard) ≤ upto
lines_short capture from [] upto most is = omega (arith, is)
lines_short capture from (first ∷ rest) upto most (hears, walks) =
    let fits = next_fits capture from first most hears in
    omega (arith, fits.least, fits.room, fits.line, length-append (frame_line first) (flat_map frame_line rest), lines_short capture (end_of first) rest upto most walks)

next_room : (capture : List Sample) (from : ℕ) (heard : List Heard) (next : Heard) (upto : ℕ) → length capture ≤ most_text → Walks capture from (heard ++ next ∷ []) upto
    → from + length (flat_map frame_line heard) + line_room next ≤ length capture
next_room capture from [] next upto most (hears, walks) = let fits = next_fits capture from next most hears in omega (arith, fits.least, fits.room, fits.whole)
next_room capture from (first ∷ rest) next upto most (hears, walks) =
    let fits = next_fits capture from first most hears in
    omega (arith, fits.least, fits.room, fits.line, length-append (frame_line first) (flat_map frame_line rest), next_room capture (end_of first) rest next upto most walks)

pub next_line_fits : NextLineFits
next_line_fits capture heard next upto most walks = omega (arith, next_room capture 0 heard next upto most walks)

pub cut_line_fits : CutLineFits
cut_line_fits capture heard cut most found =
    omega (arith, lines_short capture 0 heard found.upto most found.walks, found.ends.next.least, found.ends.next.chosen.within)
