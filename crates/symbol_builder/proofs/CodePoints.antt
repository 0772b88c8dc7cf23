-- The points of bits that are read at places of a code.
use Rattle.std.proofs.Common.{◌≡◌, ℕ, ◌+◌, ◌-◌, ◌*◌, ◌<◌, List, length, map, take, drop, slice_index, ap, sym, ◌∙◌, arith}
use Rattle.std.specs.List.{range_with_len}
use Rattle.std.proofs.lemmas.List.{take-map, drop-map}
use Rattle.std.proofs.lemmas.Simd.{map-map}
use Rattle.integer_laws.proofs.Filled.{all_filled}
use Rattle.fixed_complex.specs.declared.Cx.{Cx}
use Rattle.rate_table.specs.declared.Modulation.{Modulation}
use Rattle.rate_table.specs.declared.Rate.{Rate}
use Rattle.rate_table.specs.Table.{bits_of_modulation, row_of}
use Rattle.interleave_two.specs.Place.{interleaved, source_of}
use Rattle.constellations.specs.Points.{point_of}
use Rattle.symbol_builder.specs.Points.{point_at, points_of, points_of_code}

-- the bits that the interleaver takes from a code, by the places from which it takes them
sources_are : (rate : Rate) (code sources : List ℕ) → length sources ≡ (row_of rate).coded_bits → ((j : ℕ) → j < (row_of rate).coded_bits → slice_index sources j ≡ source_of rate j) → map (slice_index code) sources ≡ interleaved rate code
sources_are rate code sources long each =
    let count = (row_of rate).coded_bits in
    let all : sources ≡ map (source_of rate) (range_with_len 0 count) = all_filled 0 (source_of rate) count count sources (record { long = long; each = each }) (omega arith) in
    ap (map (slice_index code)) all ∙ map-map (slice_index code) (source_of rate) (range_with_len 0 count)

pub code_points_are : (rate : Rate) (modulation : Modulation) (code sources : List ℕ) (points : List Cx) → (row_of rate).modulation ≡ modulation → length sources ≡ (row_of rate).coded_bits → ((j : ℕ) → j < (row_of rate).coded_bits → slice_index sources j ≡ source_of rate j)
    → points ≡ points_of modulation (map (slice_index code) sources) → points ≡ points_of_code rate code
code_points_are rate modulation code sources points same long each is =
    is ∙ ap (points_of modulation) (sources_are rate code sources long each) ∙ ap (λ m. points_of m (interleaved rate code)) (sym same)

-- the point of the bits at the d-th group of places
pub point_is : (modulation : Modulation) (code places bits : List ℕ) (width d : ℕ) → width ≡ bits_of_modulation modulation → bits ≡ map (slice_index code) (take ((width * d + width) - width * d) (drop (width * d) places))
    → point_of modulation bits ≡ point_at modulation (map (slice_index code) places) d
point_is modulation code places bits width d e is =
    let size : (width * d + width) - width * d ≡ width = omega arith in
    let read = map (slice_index code) places in
    ap (point_of modulation)
    (is
    ∙ ap (λ n. map (slice_index code) (take n (drop (width * d) places))) size
    ∙ sym (take-map (slice_index code) width (drop (width * d) places))
    ∙ ap (take width) (sym (drop-map (slice_index code) (width * d) places)))
    ∙ ap (λ n. point_of modulation (take n (drop (n * d) read))) e
