-- What the law of symbols in noise states (own).
use Rattle.std.specs.Prelude.{◌≡◌, ℕ, ◌≤◌, List, length}
use Rattle.bit_lists.specs.Bits.{AreBits}
use Rattle.fixed_complex.specs.declared.Cx.{Cx}
use Rattle.fixed_complex.specs.declared.Sample.{Sample}
use Rattle.rate_table.specs.declared.Rate.{Rate}
use Rattle.rate_table.specs.Table.{row_of}
use Rattle.interleave_two.specs.Place.{deinterleaved}
use Rattle.carrier_bins.specs.Bins.{by_bin}
use Rattle.plain_waves.specs.Bodies.{all_times, plain_body}
use Rattle.plain_waves.specs.Nearness.{AreNearPlain}
use Rattle.training_fields.specs.Training.{long_carrier}
use Rattle.symbol_builder.specs.Carriers.{symbol_bin}
use Rattle.symbol_builder.specs.Points.{points_of_code}
use Rattle.carrier_equaliser.specs.Decided.{interleaved_decisions}
use Rattle.carrier_equaliser.specs.Estimates.{estimate_of}
use Rattle.carrier_equaliser.specs.Received.{received}

-- 64 samples, each within a bound of the plain body of what the bins carry
abbrev pub IsNearBody : ℕ → (ℕ → Cx) → List Sample → Type 0
IsNearBody bound carried samples = AreNearPlain bound samples (all_times (plain_body carried))

-- where both bodies of the long training field and that of a symbol, of any number, are within the noise bound of the
-- symbol's rate, the decisions in code order are the coded bits that were sent
abbrev pub DecidedInNoise : Type 0
DecidedInNoise =
    (rate : Rate) (bound number : ℕ) (bits : List ℕ) (first second symbol : List Sample)
    → bound ≤ (row_of rate).noise_bound → AreBits bits → length bits ≡ (row_of rate).coded_bits
    → IsNearBody bound (by_bin long_carrier) first → IsNearBody bound (by_bin long_carrier) second
    → IsNearBody bound (symbol_bin (points_of_code rate bits) number) symbol
    → deinterleaved rate
    (interleaved_decisions rate (estimate_of (received first) (received second))
    (received symbol))
    ≡ bits
