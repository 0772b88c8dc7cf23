-- A symbol within its rate's noise bound is decided as it was sent.
use Rattle.std.proofs.Common.{◌≡◌, ℕ, ◌+◌, ◌*◌, ◌≤◌, List, length, arith}
use Rattle.integer_laws.proofs.Order.{pos-le}
use Rattle.bit_lists.specs.Bits.{AreBits}
use Rattle.fixed_complex.specs.declared.Sample.{Sample}
use Rattle.rate_table.specs.declared.Rate.{Rate}
use Rattle.rate_table.specs.Table.{row_of}
use Rattle.interleave_two.specs.Place.{deinterleaved}
use Rattle.carrier_bins.specs.Bins.{by_bin}
use Rattle.training_fields.specs.Training.{long_carrier}
use Rattle.symbol_builder.specs.Carriers.{symbol_bin}
use Rattle.symbol_builder.specs.Points.{points_of_code}
use Rattle.carrier_equaliser.specs.Decided.{interleaved_decisions}
use Rattle.carrier_equaliser.specs.Estimates.{estimate_of}
use Rattle.carrier_equaliser.specs.Received.{received}
use Rattle.fixed_complex.specs.Pairs.{IsAtLeastOfSize}
use Rattle.rate_table.proofs.ByRate.{noise_bound_from}
use Rattle.decided_axis.proofs.Bodies.{decided_by_bodies}
use Rattle.decided_axis.proofs.Fitting.{long_fit, symbol_fit}
use Rattle.symbols_in_noise.specs.Laws.{IsNearBody}
use Rattle.symbols_in_noise.proofs.Bodies.{carried, one}
use Rattle.symbols_in_noise.proofs.Bounds.{left_in_noise, noise_allows}

one_large : IsAtLeastOfSize 1 one
one_large = record { size = pos-le 1 1 (omega arith) }

module _ (rate : Rate) (bound number : ℕ) (bits : List ℕ) (first second symbol : List Sample) (least : bound ≤ (row_of rate).noise_bound) (are : AreBits bits) (long : length bits ≡ (row_of rate).coded_bits)
    (near_first : IsNearBody bound (by_bin long_carrier) first) (near_second : IsNearBody bound (by_bin long_carrier) second) (near_symbol : IsNearBody bound (symbol_bin (points_of_code rate bits) number) symbol) where
  most : bound ≤ 64
  most = omega (arith, least, noise_bound_from rate)

  pub symbol_back : deinterleaved rate (interleaved_decisions rate (estimate_of (received first) (received second)) (received symbol)) ≡ bits
  symbol_back =
      decided_by_bodies rate 1 (91 * bound + 70) 1 (left_in_noise (row_of rate).modulation) number bits (λ _. one) (received first) (received second) (received symbol)
      are long (noise_allows rate bound least)
      (carried bound (by_bin long_carrier) first most long_fit near_first)
      (carried bound (by_bin long_carrier) second most long_fit near_second)
      (carried bound (symbol_bin (points_of_code rate bits) number) symbol most (symbol_fit rate bits number are long) near_symbol)
      (λ bin lt. one_large)
