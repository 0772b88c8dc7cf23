-- The sizes of the points of bits.
use Rattle.std.proofs.Common.{◌≡◌, ℕ, ◌+◌, ◌*◌, ◌<◌, ◌≤◌, List, length, take, drop, arith, unsigned_abs}
use Rattle.std.proofs.lemmas.List.{length-drop, length-take-le}
use Rattle.std.proofs.lemmas.List.Elements.{All-drop, All-take}
use Rattle.std.proofs.lemmas.List.FromFn.{length-map-range_with_len}
use Rattle.bit_lists.specs.Bits.{AreBits, IsBit}
use Rattle.fixed_complex.specs.Pairs.{IsWithin}
use Rattle.fixed_complex.specs.PairLists.{PairsWithin}
use Rattle.rate_table.specs.declared.Modulation.{Modulation}
use Rattle.rate_table.specs.declared.Modulation.TheVariants.{Bpsk, Qpsk, Qam16, Qam64}
use Rattle.rate_table.specs.Table.{bits_of_modulation}
use Rattle.constellations.specs.Axes.{axis_of, axis_width}
use Rattle.constellations.specs.Points.{point_of}
use Rattle.fixed_complex.proofs.PairLists.{entry-map}
use Rattle.symbol_builder.specs.Points.{point_at, points_of}
use Rattle.constellations.proofs.AxisSizes.{small_axis}

-- the axis of the bits behind some, of which there are enough
axis_behind : (modulation : Modulation) (bits : List ℕ) (from : ℕ) → AreBits bits → from + axis_width modulation ≤ length bits → unsigned_abs (axis_of modulation (take (axis_width modulation) (drop from bits))) ≤ 700
axis_behind modulation bits from are enough =
    small_axis modulation _ (All-take IsBit _ _ (All-drop IsBit _ _ are)) (length-take-le (axis_width modulation) (drop from bits) (omega (arith, length-drop from bits)))

axis_first : (modulation : Modulation) (bits : List ℕ) → AreBits bits → axis_width modulation ≤ length bits → unsigned_abs (axis_of modulation (take (axis_width modulation) bits)) ≤ 700
axis_first modulation bits are enough = small_axis modulation _ (All-take IsBit _ _ are) (length-take-le (axis_width modulation) bits enough)

small_point : (modulation : Modulation) (bits : List ℕ) → AreBits bits → length bits ≡ bits_of_modulation modulation → IsWithin 700 (point_of modulation bits)
unfolding point_of
small_point Bpsk bits are long = record { re = axis_first Bpsk bits are (omega (arith, long)); im = omega arith }
small_point Qpsk bits are long = record { re = axis_first Qpsk bits are (omega (arith, long)); im = axis_behind Qpsk bits 1 are (omega (arith, long)) }
small_point Qam16 bits are long = record { re = axis_first Qam16 bits are (omega (arith, long)); im = axis_behind Qam16 bits 2 are (omega (arith, long)) }
small_point Qam64 bits are long = record { re = axis_first Qam64 bits are (omega (arith, long)); im = axis_behind Qam64 bits 3 are (omega (arith, long)) }

-- the d-th group of a symbol's bits is there whole
group_whole : (modulation : Modulation) (bits : List ℕ) (d : ℕ) → 48 * bits_of_modulation modulation ≤ length bits → d < 48 → bits_of_modulation modulation ≤ length (drop (bits_of_modulation modulation * d) bits)
group_whole Bpsk bits d enough lt = omega (arith, length-drop (1 * d) bits)
group_whole Qpsk bits d enough lt = omega (arith, length-drop (2 * d) bits)
group_whole Qam16 bits d enough lt = omega (arith, length-drop (4 * d) bits)
group_whole Qam64 bits d enough lt = omega (arith, length-drop (6 * d) bits)

pub small_points : (modulation : Modulation) (bits : List ℕ) → AreBits bits → 48 * bits_of_modulation modulation ≤ length bits → PairsWithin 700 (points_of modulation bits)
unfolding points_of
small_points modulation bits are enough = record {
  each = λ d lt.
      let below : d < 48 = omega (arith, length-map-range_with_len (point_at modulation bits) 0 48) in
      let width = bits_of_modulation modulation in
      rw (entry-map (point_at modulation bits) 48 d below)
      (small_point modulation (take width (drop (width * d) bits)) (All-take IsBit _ _ (All-drop IsBit _ _ are)) (length-take-le width (drop (width * d) bits) (group_whole modulation bits d enough below)));
}
