-- What the law of symbols in echoes states (own).
use Rattle.std.specs.Prelude.{◌≡◌, ℕ, ◌/◌, ◌≤◌, List, length}
use Rattle.bit_lists.specs.Bits.{AreBits}
use Rattle.fixed_complex.specs.declared.Cx.{Cx}
use Rattle.fixed_complex.specs.declared.Sample.{Sample}
use Rattle.rate_table.specs.declared.Rate.{Rate}
use Rattle.rate_table.specs.Table.{row_of}
use Rattle.interleave_two.specs.Place.{deinterleaved}
use Rattle.carrier_bins.specs.Bins.{by_bin}
use Rattle.training_fields.specs.Training.{long_carrier}
use Rattle.symbol_builder.specs.Carriers.{symbol_bin}
use Rattle.symbol_builder.specs.Points.{points_of_code}
use Rattle.carrier_equaliser.specs.Decided.{interleaved_decisions}
use Rattle.carrier_equaliser.specs.Estimates.{estimate_of}
use Rattle.carrier_equaliser.specs.Received.{received}
use Rattle.echo_taps.specs.Taps.{IsEcho}
use Rattle.echo_channels.specs.Channels.{IsNearEchoedBody}

-- half the noise bound of a rate: 32, 18, 8 or 4
abbrev pub echo_bound_of : Rate → ℕ
echo_bound_of rate = (row_of rate).noise_bound / 2

-- where both bodies of the long training field and that of a symbol, of any number, are within half the noise bound of
-- the symbol's rate of one echo of the plain bodies, the decisions in code order are the coded bits that were sent
abbrev pub DecidedInEchoes : Type 0
DecidedInEchoes =
    (rate : Rate) (bound number : ℕ) (taps : List Cx) (bits : List ℕ) (first second symbol : List Sample)
    → IsEcho taps → bound ≤ echo_bound_of rate → AreBits bits → length bits ≡ (row_of rate).coded_bits
    → IsNearEchoedBody bound taps (by_bin long_carrier) first
    → IsNearEchoedBody bound taps (by_bin long_carrier) second
    → IsNearEchoedBody bound taps (symbol_bin (points_of_code rate bits) number) symbol
    → deinterleaved rate
    (interleaved_decisions rate (estimate_of (received first) (received second))
    (received symbol))
    ≡ bits
