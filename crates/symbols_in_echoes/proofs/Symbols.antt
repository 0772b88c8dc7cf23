-- A symbol in an echo, within half its rate's noise bound, is decided as it was sent.
use Rattle.std.proofs.Common.{◌+◌, ◌*◌, ◌^◌, ◌≤◌, arith}
use Rattle.rate_table.specs.Table.{row_of}
use Rattle.carrier_bins.specs.Bins.{by_bin}
use Rattle.training_fields.specs.Training.{long_carrier}
use Rattle.symbol_builder.specs.Carriers.{symbol_bin}
use Rattle.symbol_builder.specs.Points.{points_of_code}
use Rattle.carrier_equaliser.specs.Received.{received}
use Rattle.decided_axis.proofs.Bodies.{decided_by_bodies}
use Rattle.decided_axis.proofs.Fitting.{long_fit, symbol_fit}
use Rattle.echo_channels.specs.Channels.{channel_of}
use Rattle.echo_channels.proofs.Sizes.{channel_large}
use Rattle.symbols_in_echoes.specs.Laws.{DecidedInEchoes}
use Rattle.symbols_in_echoes.proofs.Bodies.{echoed_carried}
use Rattle.symbols_in_echoes.proofs.Bounds.{echo_bound_most, echoes_allow, left_in_echoes}

pub decided_in_echoes : DecidedInEchoes
decided_in_echoes rate bound number taps bits first second symbol echo least are long near_first near_second near_symbol =
    let most : bound ≤ 32 = omega (arith, least, echo_bound_most rate) in
    decided_by_bodies rate (2 ^ 30) (91 * bound + 89) 805306111 (left_in_echoes (row_of rate).modulation) number bits (channel_of taps) (received first) (received second) (received symbol)
    are long (echoes_allow rate bound least)
    (echoed_carried bound taps (by_bin long_carrier) first most echo long_fit near_first)
    (echoed_carried bound taps (by_bin long_carrier) second most echo long_fit near_second)
    (echoed_carried bound taps (symbol_bin (points_of_code rate bits) number) symbol most echo (symbol_fit rate bits number are long) near_symbol)
    (λ bin lt. channel_large taps bin echo)
