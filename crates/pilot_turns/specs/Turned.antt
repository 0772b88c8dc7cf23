-- The decisions of a symbol that is turned back (own).
use Rattle.std.specs.Prelude.{ℕ, List, map, pos}
use Rattle.fixed_complex.specs.declared.Cx.{Cx}
use Rattle.fixed_complex.specs.Pairs.{multiple, times}
use Rattle.rate_table.specs.declared.Modulation.{Modulation}
use Rattle.rate_table.specs.declared.Modulation.TheVariants.{Bpsk, Qpsk, Qam16, Qam64}
use Rattle.rate_table.specs.declared.Rate.{Rate}
use Rattle.carrier_equaliser.specs.Decided.{interleaved_decisions}

-- the channel of each carrier, with a turn
abbrev pub turned_channels : Cx → List Cx → List Cx
turned_channels turn estimate = map (λ channel. times channel turn) estimate

-- what was received, over 16384, in which turns count
abbrev pub turned_carriers : List Cx → List Cx
turned_carriers symbol = map (multiple (pos 16384)) symbol

-- the decisions of a symbol over the channel with the symbol's turn, interleaved
unfoldable pub interleaved_turned : Rate → Cx → List Cx → List Cx → List ℕ
interleaved_turned rate turn estimate symbol =
    interleaved_decisions rate (turned_channels turn estimate) (turned_carriers symbol)

-- how far samples may be from the waveform of a frame with turns: 20, 14, 6 or 3
abbrev pub phase_bound_of : Modulation → ℕ
phase_bound_of Bpsk = 20
phase_bound_of Qpsk = 14
phase_bound_of Qam16 = 6
phase_bound_of Qam64 = 3
