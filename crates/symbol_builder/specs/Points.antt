-- The points of a symbol (IEEE Std 802.11-2012, 18.3.5.8).
use Rattle.std.specs.Prelude.{ℕ, ◌*◌, List, map, take, drop, length}
use Rattle.std.specs.List.{flat_map, range_with_len}
use Rattle.fixed_complex.specs.declared.Cx.{Cx}
use Rattle.rate_table.specs.declared.Modulation.{Modulation}
use Rattle.rate_table.specs.declared.Rate.{Rate}
use Rattle.rate_table.specs.Table.{bits_of_modulation, row_of}
use Rattle.rate_table.specs.Symbols.{symbol_count}
use Rattle.constellations.specs.Points.{point_of}
use Rattle.interleave_two.specs.Place.{interleaved, symbol_bits}
use Rattle.data_field.specs.Stages.{kept_at}

-- the point of data number d: that of the d-th group of N_BPSC interleaved bits
abbrev pub point_at : Modulation → List ℕ → ℕ → Cx
point_at modulation bits d =
    let width = bits_of_modulation modulation in point_of modulation (take width (drop (width * d) bits))

-- the 48 points of a symbol's interleaved bits
unfoldable pub points_of : Modulation → List ℕ → List Cx
points_of modulation bits = map (point_at modulation bits) (range_with_len 0 48)

-- the points of a symbol's coded bits at a rate: those of the bits interleaved
abbrev pub points_of_code : Rate → List ℕ → List Cx
points_of_code rate bits = points_of (row_of rate).modulation (interleaved rate bits)

-- the points of DATA symbol m of a frame
abbrev pub data_points : Rate → ℕ → List ℕ → ℕ → List Cx
data_points rate seed psdu m = points_of_code rate (symbol_bits rate (kept_at rate seed psdu) m)

-- the points of all DATA symbols, one symbol after another
abbrev pub points_at : Rate → ℕ → List ℕ → List Cx
points_at rate seed psdu =
    flat_map (data_points rate seed psdu)
    (range_with_len 0 (symbol_count (row_of rate).field_bits (length psdu)))
