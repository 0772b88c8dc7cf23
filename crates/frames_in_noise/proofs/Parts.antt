-- Parts of samples that are near parts of a frame.
use Rattle.std.proofs.Common.{◌≡◌, ℕ, ◌+◌, ◌-◌, ◌*◌, ◌%◌, ◌<◌, ◌≤◌, List, length, get_or, drop, ap, refl, sym, ◌∙◌, arith, pos}
use Rattle.std.proofs.lemmas.List.{get_or-append-add, get_or-drop, get_or-take, length-drop, length-take-le}
use Rattle.std.proofs.lemmas.List.FromFn.{get_or-map-range_with_len, length-map-range_with_len}
use Rattle.fixed_complex.specs.declared.Cx.{Cx}
use Rattle.fixed_complex.specs.declared.Sample.{Sample}
use Rattle.fixed_complex.specs.PairLists.{entry}
use Rattle.fixed_complex.specs.Pairs.{zero_pair}
use Rattle.fixed_complex.specs.Samples.{sample_at}
use Rattle.fixed_complex.proofs.PairLists.{entry-map}
use Rattle.rate_table.specs.Symbols.{symbol_count}
use Rattle.rate_table.specs.Table.{row_of}
use Rattle.carrier_bins.specs.Bins.{by_bin}
use Rattle.plain_waves.specs.Bodies.{all_times, plain_body}
use Rattle.plain_waves.specs.Nearness.{AreNearPlain, IsNearPlain}
use Rattle.training_fields.specs.Training.{long_carrier, long_times, preamble_of, short_carrier, short_times}
use Rattle.frame_search.specs.Match.{part}
use Rattle.frame_fields.specs.Frames.{frame_bin}
use Rattle.frame_fields.proofs.FramePlaces.{in_preamble, in_symbol}
use Rattle.starts_in_noise.proofs.Lengths.{length-preamble}
use Rattle.symbols_in_noise.specs.Laws.{IsNearBody}
use Rattle.frame_lists.specs.Near.{SentFrame, plain_of, samples_of}
use Rattle.frames_in_noise.specs.Laws.{BeginsNear}

-- the sample at a place of a part
pub part_at : (samples : List Sample) (from size n : ℕ) → n < size → sample_at (part samples from size) n ≡ sample_at samples (from + n)
part_at samples from size n lt =
    let silence : Sample = record { i = pos 0; q = pos 0 } in
    get_or-take size (drop from samples) n silence lt ∙ get_or-drop from samples n silence

pub near_part : (bound : ℕ) (samples : List Sample) (target : List Cx) (from size : ℕ) → from + size ≤ length samples → length target ≡ size → ((n : ℕ) → n < size → IsNearPlain bound (sample_at samples (from + n)) (entry target n)) → AreNearPlain bound (part samples from size) target
near_part bound samples target from size within long near =
    let count : length (part samples from size) ≡ size = length-take-le size (drop from samples) (omega (arith, length-drop from samples)) in
    record {
      long = count ∙ sym long;
      each = λ n lt. let below : n < size = omega (arith, count) in rw (part_at samples from size n below) (near n below);
    }

-- ---- the bodies of a frame
module _ (frame : SentFrame) where
  abbrev symbols : ℕ
  symbols = symbol_count (row_of frame.rate).field_bits (length frame.psdu)

  abbrev short : List Cx
  short = short_times (plain_body (by_bin short_carrier))

  -- a body of the long training field: 64 times behind its guard, or 64 more
  pub long_at : (from t : ℕ) → 192 ≤ from → from ≤ 256 → from % 64 ≡ 0 → t < 64 → entry (plain_of frame) (from + t) ≡ plain_body (by_bin long_carrier) t
  long_at from t least most whole inside =
      let count : length short ≡ 160 = length-map-range_with_len (λ time. plain_body (by_bin short_carrier) (time % 64)) 0 160 in
      let time = (from - 160) + t in
      let place : from + t ≡ length short + time = omega (arith, count) in
      let back : (time + 32) % 64 ≡ t = omega arith in
      in_preamble plain_body frame.rate frame.seed frame.psdu (from + t) zero_pair (omega arith)
      ∙ ap (λ n. get_or (preamble_of plain_body) n zero_pair) place
      ∙ get_or-append-add short (long_times (plain_body (by_bin long_carrier))) time zero_pair
      ∙ get_or-map-range_with_len (λ time. plain_body (by_bin long_carrier) ((time + 32) % 64)) 0 160 time time zero_pair (omega arith) (omega arith)
      ∙ ap (plain_body (by_bin long_carrier)) back

  -- the body of symbol n
  pub symbol_at : (n t : ℕ) → n ≤ symbols → t < 64 → entry (plain_of frame) (336 + 80 * n + t) ≡ plain_body (frame_bin frame.rate frame.seed frame.psdu n) t
  symbol_at n t sent inside =
      let place : 336 + 80 * n + t ≡ 320 + 80 * n + (16 + t) = omega arith in
      let back : ((16 + t) + 48) % 64 ≡ t = omega arith in
      ap (entry (plain_of frame)) place
      ∙ in_symbol plain_body frame.rate frame.seed frame.psdu n (16 + t) zero_pair sent (omega arith)
      ∙ ap (plain_body (frame_bin frame.rate frame.seed frame.psdu n)) back

  module _ (bound : ℕ) (samples : List Sample) (begins : BeginsNear bound samples frame) where
    -- a part that is a body
    near_body : (carried : ℕ → Cx) (from : ℕ) → from + 64 ≤ samples_of frame → ((t : ℕ) → t < 64 → entry (plain_of frame) (from + t) ≡ plain_body carried t) → IsNearBody bound carried (part samples from 64)
    near_body carried from within same =
        near_part bound samples (all_times (plain_body carried)) from 64 (omega (arith, begins.whole)) (length-map-range_with_len (plain_body carried) 0 64)
        (λ t lt. rw (entry-map (plain_body carried) 64 t lt, ← same t lt) (begins.near (from + t) (omega arith)))

    pub near_first : IsNearBody bound (by_bin long_carrier) (part samples 192 64)
    near_first = near_body (by_bin long_carrier) 192 (omega arith) (λ t lt. long_at 192 t (omega arith) (omega arith) refl lt)

    pub near_second : IsNearBody bound (by_bin long_carrier) (part samples 256 64)
    near_second = near_body (by_bin long_carrier) 256 (omega arith) (λ t lt. long_at 256 t (omega arith) (omega arith) refl lt)

    pub near_symbol : (n : ℕ) → n ≤ symbols → IsNearBody bound (frame_bin frame.rate frame.seed frame.psdu n) (part samples (336 + 80 * n) 64)
    near_symbol n sent = near_body (frame_bin frame.rate frame.seed frame.psdu n) (336 + 80 * n) (omega arith) (λ t lt. symbol_at n t sent lt)

    pub near_preamble : AreNearPlain bound (part samples 0 320) (preamble_of plain_body)
    near_preamble =
        near_part bound samples (preamble_of plain_body) 0 320 (omega (arith, begins.whole)) length-preamble
        (λ t lt. let same : 0 + t ≡ t = omega arith in rw (same, ← in_preamble plain_body frame.rate frame.seed frame.psdu t zero_pair lt) (begins.near t (omega arith)))
