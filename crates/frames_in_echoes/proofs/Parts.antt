-- Bodies of an echoed frame are near echoed bodies.
use Rattle.std.proofs.Common.{◌≡◌, ℕ, ◌+◌, ◌-◌, ◌*◌, ◌/◌, ◌%◌, ◌^◌, ◌<◌, ◌≤◌, List, length, get_or, drop, ap, subst, sym, ◌∙◌, arith, pos}
use Rattle.std.proofs.lemmas.Bool.{le-ltb}
use Rattle.std.proofs.lemmas.List.{get_or-append-add, length-drop, length-take-le}
use Rattle.std.proofs.lemmas.List.Elements.{All-drop, All-take}
use Rattle.std.proofs.lemmas.List.FromFn.{get_or-map-range_with_len, length-map-range_with_len}
use Rattle.fixed_complex.specs.declared.Cx.{Cx}
use Rattle.fixed_complex.specs.declared.Sample.{Sample}
use Rattle.fixed_complex.specs.PairLists.{entry}
use Rattle.fixed_complex.specs.Pairs.{IsWithin, minus, multiple, times, zero_pair}
use Rattle.fixed_complex.specs.Samples.{AreSamples, IsSample, pair_at}
use Rattle.fixed_complex.specs.Turns.{turn_at}
use Rattle.fixed_complex.proofs.Sums.{same_sums, sum-local}
use Rattle.fixed_complex.proofs.Turning.{whole_turns}
use Rattle.fixed_complex.proofs.Samples.{within_16_bits}
use Rattle.rate_table.specs.Symbols.{symbol_count}
use Rattle.rate_table.specs.Table.{row_of}
use Rattle.carrier_bins.specs.Bins.{by_bin}
use Rattle.plain_waves.specs.Bodies.{plain_body}
use Rattle.training_fields.specs.Training.{long_carrier, long_times, preamble_of, short_carrier, short_times}
use Rattle.frame_search.specs.Match.{part}
use Rattle.carrier_equaliser.specs.Received.{received}
use Rattle.carrier_equaliser.proofs.ComingBack.{received_are_near}
use Rattle.decided_axis.specs.Bodies.{FitABody}
use Rattle.decided_axis.proofs.Fitting.{long_fit}
use Rattle.echo_taps.specs.Echoes.{gathered}
use Rattle.echo_taps.specs.Taps.{IsEcho}
use Rattle.echo_channels.specs.Channels.{IsNearEchoedBody, echoed_body}
use Rattle.echo_channels.specs.Laws.{IsNearSent}
use Rattle.echo_channels.proofs.Prefix.{cyclic_prefix}
use Rattle.frame_fields.specs.Frames.{frame_bin}
use Rattle.frame_fields.proofs.FramePlaces.{in_preamble, in_symbol}
use Rattle.frame_lists.specs.Near.{SentFrame, plain_of, samples_of}
use Rattle.frame_reader.specs.Decisions.{body_of}
use Rattle.frames_in_noise.proofs.Codes.{frame_fit}
use Rattle.frames_in_noise.proofs.Parts.{part_at}
use Rattle.frames_in_echoes.specs.Laws.{LongBodiesComeBack, SymbolsComeBack}
use Rattle.frames_in_echoes.specs.Waves.{BeginsNearEchoed}

-- ---- a body stands at a turn
body_in_turn : (x : ℕ → Cx) (n : ℕ) → plain_body x (n % 64) ≡ plain_body x n
body_in_turn x n =
    let whole : n ≡ n % 64 + 64 * (n / 64) = omega arith in
    let place = λ (d : ℕ). let one : d * (n % 64 + 64 * (n / 64)) ≡ d * (n % 64) + 64 * (d * (n / 64)) = omega arith in ap (λ m. d * m) whole ∙ one in
    same_sums _ _ (λ d. ap (times (x d)) (sym (ap turn_at (place d) ∙ whole_turns (d * (n % 64)) (d * (n / 64))))) 64

same_place : (x : ℕ → Cx) (m n : ℕ) → m % 64 ≡ n % 64 → plain_body x m ≡ plain_body x n
same_place x m n same = sym (body_in_turn x m) ∙ ap (plain_body x) same ∙ body_in_turn x n

module _ (frame : SentFrame) where
  abbrev symbols : ℕ
  symbols = symbol_count (row_of frame.rate).field_bits (length frame.psdu)

  abbrev short : List Cx
  short = short_times (plain_body (by_bin short_carrier))

  -- a place of the long training field
  long_at : (p : ℕ) → 160 ≤ p → p < 320 → entry (plain_of frame) p ≡ plain_body (by_bin long_carrier) (p - 160 + 32)
  long_at p least most =
      let count : length short ≡ 160 = length-map-range_with_len (λ time. plain_body (by_bin short_carrier) (time % 64)) 0 160 in
      let time = p - 160 in
      let place : p ≡ length short + time = omega (arith, count) in
      in_preamble plain_body frame.rate frame.seed frame.psdu p zero_pair most
      ∙ ap (λ n. get_or (preamble_of plain_body) n zero_pair) place
      ∙ get_or-append-add short (long_times (plain_body (by_bin long_carrier))) time zero_pair
      ∙ get_or-map-range_with_len (λ time. plain_body (by_bin long_carrier) ((time + 32) % 64)) 0 160 time time zero_pair (omega arith) (omega arith)
      ∙ body_in_turn (by_bin long_carrier) (time + 32)

  -- a place of symbol n, its prefix included
  symbol_at : (n t : ℕ) → n ≤ symbols → t < 80 → entry (plain_of frame) (320 + 80 * n + t) ≡ plain_body (frame_bin frame.rate frame.seed frame.psdu n) (t + 48)
  symbol_at n t sent inside = in_symbol plain_body frame.rate frame.seed frame.psdu n t zero_pair sent inside ∙ body_in_turn (frame_bin frame.rate frame.seed frame.psdu n) (t + 48)

  module _ (bound : ℕ) (taps : List Cx) (samples : List Sample) (begins : BeginsNearEchoed bound taps samples frame) where
    -- a part that is a body behind seven samples of its prefix
    near_body : (carried : ℕ → Cx) (from : ℕ) → 8 ≤ from → from + 64 ≤ samples_of frame → ((t late : ℕ) → t < 64 → late < 8 → entry (plain_of frame) (from + t - late) ≡ plain_body carried (t + 64 - late)) → IsNearEchoedBody bound taps carried (part samples from 64)
    unfolding gathered
    near_body carried from behind within same =
        let wave : (t : ℕ) → t < 64 → gathered taps (entry (plain_of frame)) (from + t) ≡ echoed_body taps carried t =
        λ t lt. sum-local 8 _ _ (λ late few. ap (times (entry taps late)) (let not_before : late ≤ from + t = omega arith in rw (le-ltb (from + t) late not_before) (same t late lt few))) in
        record {
          long = length-take-le 64 (drop from samples) (omega (arith, begins.whole, length-drop from samples));
          near = λ t lt.
              let near : IsWithin (2 ^ 31 * bound) (minus (multiple (pos (2 ^ 31)) (pair_at samples (from + t))) (echoed_body taps carried t)) =
              subst (λ w. IsWithin (2 ^ 31 * bound) (minus (multiple (pos (2 ^ 31)) (pair_at samples (from + t))) w)) (wave t lt) (begins.near (from + t) (omega arith)) in
              let here : IsWithin (2 ^ 31 * bound) (minus (multiple (pos (2 ^ 31)) (pair_at (part samples from 64) t)) (echoed_body taps carried t)) = rw (part_at samples from 64 t lt) near in
              record { re = omega (arith, here.re); im = omega (arith, here.im) };
        }

    pub near_first : IsNearEchoedBody bound taps (by_bin long_carrier) (part samples 192 64)
    near_first = near_body (by_bin long_carrier) 192 (omega arith) (omega arith) (λ t late lt few. long_at (192 + t - late) (omega arith) (omega arith) ∙ same_place (by_bin long_carrier) _ _ (omega arith))

    pub near_second : IsNearEchoedBody bound taps (by_bin long_carrier) (part samples 256 64)
    near_second = near_body (by_bin long_carrier) 256 (omega arith) (omega arith) (λ t late lt few. long_at (256 + t - late) (omega arith) (omega arith) ∙ same_place (by_bin long_carrier) _ _ (omega arith))

    pub near_symbol : (n : ℕ) → n ≤ symbols → IsNearEchoedBody bound taps (frame_bin frame.rate frame.seed frame.psdu n) (body_of samples n)
    near_symbol n sent =
        near_body (frame_bin frame.rate frame.seed frame.psdu n) (336 + 80 * n) (omega arith) (omega arith)
        (λ t late lt few.
        let place : 336 + 80 * n + t - late ≡ 320 + 80 * n + (16 + t - late) = omega arith in
        ap (entry (plain_of frame)) place ∙ symbol_at n (16 + t - late) sent (omega arith) ∙ same_place (frame_bin frame.rate frame.seed frame.psdu n) _ _ (omega arith))

-- ---- received carriers
part_small : (samples : List Sample) (from n : ℕ) → AreSamples samples → IsWithin (2 ^ 15) (pair_at (part samples from 64) n)
part_small samples from n are = within_16_bits (part samples from 64) (All-take IsSample 64 (drop from samples) (All-drop IsSample from samples are)) n

come_back : (bound : ℕ) (taps : List Cx) (carried : ℕ → Cx) (samples : List Sample) (from bin : ℕ) → IsEcho taps → AreSamples samples → FitABody carried → IsNearEchoedBody bound taps carried (part samples from 64) → bin < 64 → IsNearSent bound taps bin (carried bin) (entry (received (part samples from 64)) bin)
come_back bound taps carried samples from bin echo are fit near lt =
    cyclic_prefix bound taps carried (part samples from 64) (received (part samples from 64)) echo fit near (received_are_near (part samples from 64) (λ n. part_small samples from n are)) bin lt

pub long_bodies_come_back : LongBodiesComeBack
long_bodies_come_back bound taps samples frame bin echo are begins lt = (
  come_back bound taps (by_bin long_carrier) samples 192 bin echo are long_fit (near_first frame bound taps samples begins) lt,
  come_back bound taps (by_bin long_carrier) samples 256 bin echo are long_fit (near_second frame bound taps samples begins) lt,
)

pub symbols_come_back : SymbolsComeBack
symbols_come_back bound taps samples frame n bin echo are begins sent lt =
    come_back bound taps (frame_bin frame.rate frame.seed frame.psdu n) samples (336 + 80 * n) bin echo are (frame_fit frame n sent) (near_symbol frame bound taps samples begins n sent) lt
