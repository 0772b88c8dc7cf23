-- Bodies of the long training field and of symbols fit.
use Rattle.std.proofs.Common.{◌≡◌, ℕ, List, length, arith}
use Rattle.bit_lists.specs.Bits.{AreBits}
use Rattle.fixed_complex.specs.PairLists.{PairsWithin}
use Rattle.fixed_complex.proofs.PairLists.{entry-map, everywhere_within}
use Rattle.fixed_complex.proofs.PairSizes.{within_wider}
use Rattle.rate_table.specs.declared.Rate.{Rate}
use Rattle.rate_table.specs.Table.{row_of}
use Rattle.rate_table.proofs.ByRate.{coded_bits_by_modulation}
use Rattle.interleave_two.specs.Place.{interleaved}
use Rattle.carrier_bins.specs.Bins.{all_bins, by_bin}
use Rattle.training_fields.specs.Training.{long_carrier}
use Rattle.training_fields.proofs.Fields.{long_fits, long_within}
use Rattle.symbol_builder.specs.Carriers.{symbol_bin}
use Rattle.symbol_builder.specs.Points.{points_of_code}
use Rattle.symbol_builder.proofs.PointSizes.{small_points}
use Rattle.symbol_builder.proofs.SymbolSizes.{symbol_fits, symbol_within}
use Rattle.decided_axis.specs.Bodies.{FitABody}
use Rattle.decided_axis.proofs.Symbols.{are_order, long_order}

pub long_fit : FitABody (by_bin long_carrier)
long_fit = record {
  within = λ bin lt. rw (← entry-map (by_bin long_carrier) 64 bin lt) (everywhere_within 954 (all_bins long_carrier) long_within bin);
  fits = long_fits;
}

pub symbol_fit : (rate : Rate) (bits : List ℕ) (number : ℕ) → AreBits bits → length bits ≡ (row_of rate).coded_bits → FitABody (symbol_bin (points_of_code rate bits) number)
symbol_fit rate bits number are long =
    let points = points_of_code rate bits in
    let small : PairsWithin 700 points = small_points (row_of rate).modulation (interleaved rate bits) (are_order rate bits are) (omega (arith, coded_bits_by_modulation rate, long_order rate bits are)) in
    record {
      within = λ bin lt. within_wider 700 954 _ (omega arith) (symbol_within points number small bin lt);
      fits = symbol_fits points number small;
    }
