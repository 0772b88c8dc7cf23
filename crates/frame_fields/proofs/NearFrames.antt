-- The sent samples of a frame are near its plain waveform, and small.
use Rattle.std.proofs.Common.{◌≡◌, ℕ, zero, suc, ◌+◌, ◌*◌, ◌≤◌, List, length, refl, subst, arith}
use Rattle.std.specs.List.{range_with_len}
use Rattle.std.proofs.lemmas.List.Elements.{All-drop, All-map, All-take}
use Rattle.std.proofs.lemmas.List.FromFn.{length-map-range_with_len}
use Rattle.bit_lists.specs.Bits.{AreBits, IsBit}
use Rattle.bit_lists.proofs.BitFacts.{IsBit-slice_index}
use Rattle.conv_code.proofs.Coded.{AreBits-code_of}
use Rattle.fixed_complex.specs.PairLists.{PairsWithin}
use Rattle.data_field.specs.Stages.{code_at, field_at, kept_at}
use Rattle.interleave_two.specs.Place.{interleaved}
use Rattle.puncture_map.proofs.KeptBits.{AreBits-kept_bits}
use Rattle.rate_table.specs.declared.Rate.{Rate}
use Rattle.rate_table.specs.declared.Rate.TheVariants.{R6}
use Rattle.rate_table.specs.Symbols.{symbol_count}
use Rattle.rate_table.specs.Table.{bits_of_modulation, row_of}
use Rattle.rate_table.proofs.ByRate.{coded_bits_by_modulation}
use Rattle.signal_field.specs.Signal.{header_bits_of}
use Rattle.symbol_builder.specs.Carriers.{plain_symbol, sent_symbol}
use Rattle.symbol_builder.specs.Points.{points_of_code}
use Rattle.plain_waves.specs.Bodies.{plain_body, sent_body}
use Rattle.fixed_complex.specs.Samples.{SamplesWithin}
use Rattle.plain_waves.specs.Nearness.{AreNearPlain}
use Rattle.frame_fields.specs.Frames.{frame_points, plain_frame, sent_frame}
use Rattle.frame_fields.proofs.Begun.{all_symbols, begun_frame, no_symbols, one_symbol_more}
use Rattle.training_fields.proofs.BothFields.{preamble_near, preamble_within}
use Rattle.plain_waves.proofs.Places.{near-append, within-append}
use Rattle.symbol_builder.proofs.PointSizes.{small_points}
use Rattle.symbol_builder.proofs.SentSymbols.{near_symbol, small_symbol}

-- a symbol has 48 groups of bits
groups : (rate : Rate) → 48 * bits_of_modulation (row_of rate).modulation ≤ (row_of rate).coded_bits
groups rate = omega (arith, coded_bits_by_modulation rate)

AreBits-interleaved : (rate : Rate) (bits : List ℕ) → AreBits bits → AreBits (interleaved rate bits)
AreBits-interleaved rate bits are = All-map IsBit _ (range_with_len 0 (row_of rate).coded_bits) (λ k d _. IsBit-slice_index bits _ are)

-- the points of coded bits are small
small_code : (rate : Rate) (bits : List ℕ) → AreBits bits → PairsWithin 700 (points_of_code rate bits)
small_code rate bits are =
    let long : length (interleaved rate bits) ≡ (row_of rate).coded_bits = length-map-range_with_len _ 0 (row_of rate).coded_bits in
    small_points (row_of rate).modulation (interleaved rate bits) (AreBits-interleaved rate bits are) (omega (arith, groups rate, long))

pub AreBits-kept_at : (rate : Rate) (seed : ℕ) (psdu : List ℕ) → AreBits (kept_at rate seed psdu)
AreBits-kept_at rate seed psdu = AreBits-kept_bits (row_of rate).code_rate (code_at rate seed psdu) (length (code_at rate seed psdu)) (AreBits-code_of (field_at rate seed psdu))

small_frame_points : (rate : Rate) (seed : ℕ) (psdu : List ℕ) (n : ℕ) → PairsWithin 700 (frame_points rate seed psdu n)
small_frame_points rate seed psdu zero = small_code R6 _ (AreBits-code_of (header_bits_of rate (length psdu) 0))
small_frame_points rate seed psdu (suc m) = small_code rate _ (All-take IsBit _ _ (All-drop IsBit _ _ (AreBits-kept_at rate seed psdu)))

-- a frame that was begun
near_begun : (rate : Rate) (seed : ℕ) (psdu : List ℕ) (n : ℕ)
    → AreNearPlain 1 (begun_frame sent_body rate seed psdu n) (begun_frame plain_body rate seed psdu n)
near_begun rate seed psdu zero = rw (no_symbols sent_body rate seed psdu, no_symbols plain_body rate seed psdu) preamble_near
near_begun rate seed psdu (suc n) =
    let next : n + 1 ≡ suc n = omega arith in
    let points = frame_points rate seed psdu n in
    let both = near-append 1 (begun_frame sent_body rate seed psdu n) (sent_symbol points n) (begun_frame plain_body rate seed psdu n) (plain_symbol points n) (near_begun rate seed psdu n) (near_symbol points n (small_frame_points rate seed psdu n)) in
    subst (λ m. AreNearPlain 1 (begun_frame sent_body rate seed psdu m) (begun_frame plain_body rate seed psdu m)) next
    (rw (← one_symbol_more sent_body rate seed psdu n, ← one_symbol_more plain_body rate seed psdu n) both)

small_begun : (rate : Rate) (seed : ℕ) (psdu : List ℕ) (n : ℕ)
    → SamplesWithin 25057 (begun_frame sent_body rate seed psdu n)
small_begun rate seed psdu zero = rw (no_symbols sent_body rate seed psdu) preamble_within
small_begun rate seed psdu (suc n) =
    let next : n + 1 ≡ suc n = omega arith in
    let points = frame_points rate seed psdu n in
    let both = within-append 25057 (begun_frame sent_body rate seed psdu n) (sent_symbol points n) (small_begun rate seed psdu n) (small_symbol points n (small_frame_points rate seed psdu n)) in
    subst (λ m. SamplesWithin 25057 (begun_frame sent_body rate seed psdu m)) next (rw (← one_symbol_more sent_body rate seed psdu n) both)

-- the whole frame
pub near_frame : (rate : Rate) (seed : ℕ) (psdu : List ℕ)
    → AreNearPlain 1 (sent_frame rate seed psdu) (plain_frame rate seed psdu)
near_frame rate seed psdu =
    let count = symbol_count (row_of rate).field_bits (length psdu) in
    rw (← all_symbols sent_body rate seed psdu count refl, ← all_symbols plain_body rate seed psdu count refl) (near_begun rate seed psdu (count + 1))

pub small_frame : (rate : Rate) (seed : ℕ) (psdu : List ℕ)
    → SamplesWithin 25057 (sent_frame rate seed psdu)
small_frame rate seed psdu =
    let count = symbol_count (row_of rate).field_bits (length psdu) in
    rw (← all_symbols sent_body rate seed psdu count refl) (small_begun rate seed psdu (count + 1))
