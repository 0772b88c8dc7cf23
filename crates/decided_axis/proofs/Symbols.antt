-- A symbol is decided as its coded bits, where each of its data numbers is.
use Rattle.std.proofs.Common.{◌≡◌, ℕ, ◌+◌, ◌*◌, ◌<◌, ◌≤◌, true, nat_lt, List, length, take, drop, slice_index, refl, ap, subst, ◌∙◌, arith}
use Rattle.std.specs.List.{range_with_len}
use Rattle.std.proofs.Math.Nat.{mul-le-mul_left}
use Rattle.std.proofs.lemmas.Bool.{agree_below_at, ltb-true}
use Rattle.std.proofs.lemmas.List.{length-drop, length-take-le, take_all}
use Rattle.std.proofs.lemmas.List.Elements.{All-drop, All-map, All-take}
use Rattle.std.proofs.lemmas.List.FromFn.{length-map-range_with_len}
use Rattle.bit_lists.specs.Bits.{AreBits, IsBit}
use Rattle.bit_lists.proofs.BitFacts.{IsBit-slice_index}
use Rattle.fixed_complex.specs.declared.Cx.{Cx}
use Rattle.fixed_complex.specs.PairLists.{entry}
use Rattle.fixed_complex.proofs.PairLists.{entry-map}
use Rattle.rate_table.specs.declared.Rate.{Rate}
use Rattle.rate_table.specs.Table.{bits_of_modulation, row_of}
use Rattle.rate_table.proofs.ByRate.{coded_bits_by_modulation, width_is}
use Rattle.interleave_two.specs.Place.{deinterleaved, interleaved, source_of}
use Rattle.interleave_two.proofs.ByPlace.{deinterleaved-interleaved}
use Rattle.carrier_bins.specs.Carriers.{bin_of, data_carrier_of}
use Rattle.symbol_builder.specs.Points.{point_at, points_of, points_of_code}
use Rattle.carrier_equaliser.specs.Decided.{decided_at, interleaved_decisions}
use Rattle.decided_axis.specs.Channels.{Allows, IsOver}
use Rattle.decided_axis.specs.Laws.{SymbolDecided, data_bin}
use Rattle.decided_axis.proofs.Groups.{groups_joined}
use Rattle.decided_axis.proofs.Rightly.{decided_rightly}

-- the bin of a data number is below 64
bin_passes : (k : ℕ) → k < 48 → nat_lt (data_bin k) 64 ≡ true
unfolding bin_of data_carrier_of
bin_passes k lt = agree_below_at (λ k. nat_lt (data_bin k) 64) (λ _. true) 48 k refl lt

pub data_bin-lt : (k : ℕ) → k < 48 → data_bin k < 64
data_bin-lt k lt = ltb-true _ _ (bin_passes k lt)

-- ---- a symbol's bits, interleaved
module _ (rate : Rate) (bits : List ℕ) (are : AreBits bits) where
  abbrev pub order : List ℕ
  order = interleaved rate bits

  abbrev width : ℕ
  width = bits_of_modulation (row_of rate).modulation

  pub long_order : length (interleaved rate bits) ≡ (row_of rate).coded_bits
  long_order = length-map-range_with_len (λ j. slice_index bits (source_of rate j)) 0 (row_of rate).coded_bits

  pub are_order : AreBits (interleaved rate bits)
  are_order = All-map IsBit _ (range_with_len 0 (row_of rate).coded_bits) (λ k d _. IsBit-slice_index bits _ are)

  -- the point of a data number, and its bits
  point_is : (k : ℕ) → k < 48 → entry (points_of_code rate bits) k ≡ point_at (row_of rate).modulation order k
  unfolding points_of
  point_is k lt = entry-map (point_at (row_of rate).modulation order) 48 k lt

  group_long : (k : ℕ) → k < 48 → length (take width (drop (width * k) order)) ≡ width
  group_long k lt =
      let most : width * (k + 1) ≤ width * 48 = mul-le-mul_left width (omega arith) in
      length-take-le width (drop (width * k) order) (omega (arith, most, length-drop (width * k) order, long_order, coded_bits_by_modulation rate))

  module _ (scale carried estimated least left : ℕ) (channel : ℕ → Cx) (estimate symbol : List Cx) (allows : Allows (row_of rate).modulation scale carried estimated least left)
      (over : (k : ℕ) → k < 48 → IsOver scale carried estimated least (channel k) (entry (points_of_code rate bits) k) (entry symbol (data_bin k)) (entry estimate (data_bin k))) where
    number_rightly : (k : ℕ) → k < 48 → take width (decided_at rate estimate symbol k) ≡ take width (drop (width * k) order)
    unfolding decided_at
    number_rightly k lt =
        let here = subst (λ x. IsOver scale carried estimated least (channel k) x (entry symbol (data_bin k)) (entry estimate (data_bin k))) (point_is k lt) (over k lt) in
        decided_rightly (row_of rate).modulation (take width (drop (width * k) order)) scale carried estimated least left (channel k) (entry symbol (data_bin k)) (entry estimate (data_bin k))
        (All-take IsBit _ _ (All-drop IsBit _ _ are_order)) (group_long k lt) allows here

    pub decided_as_sent : length bits ≡ (row_of rate).coded_bits → deinterleaved rate (interleaved_decisions rate estimate symbol) ≡ bits
    decided_as_sent long =
        let numbers : (k : ℕ) → k < 48 → take (row_of rate).bits_per_carrier (decided_at rate estimate symbol k) ≡ take (row_of rate).bits_per_carrier (drop ((row_of rate).bits_per_carrier * k) order) =
        rw (width_is rate) number_rightly in
        ap (deinterleaved rate) (groups_joined rate estimate symbol order long_order numbers)
        ∙ deinterleaved-interleaved rate bits (omega (arith, long)) ∙ take_all (row_of rate).coded_bits bits (omega (arith, long))

pub symbol_decided : SymbolDecided
symbol_decided rate scale carried estimated least left bits channel estimate symbol are long allows over =
    decided_as_sent rate bits are scale carried estimated least left channel estimate symbol allows over long
