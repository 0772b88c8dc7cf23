-- The decisions of a symbol over the estimate of a channel (own).
use Rattle.std.specs.Prelude.{ℕ, ◌/◌, ◌%◌, List, map, slice_index}
use Rattle.std.specs.List.{range_with_len}
use Rattle.integer_laws.specs.Size.{sum_of_squares}
use Rattle.fixed_complex.specs.declared.Cx.{Cx}
use Rattle.fixed_complex.specs.PairLists.{entry}
use Rattle.fixed_complex.specs.Pairs.{conjugate, times}
use Rattle.rate_table.specs.declared.Rate.{Rate}
use Rattle.rate_table.specs.Table.{row_of}
use Rattle.carrier_bins.specs.Carriers.{bin_of, data_carrier_of}
use Rattle.constellations.specs.Decisions.{decided}

-- the bits decided of a received carrier and the channel there, with zeros behind them up to six entries
abbrev pub decided_over : Rate → Cx → Cx → List ℕ
decided_over rate channel carrier =
    decided (row_of rate).modulation (times carrier (conjugate channel)) (sum_of_squares channel.re channel.im)

-- the bits decided of a data number
unfoldable pub decided_at : Rate → List Cx → List Cx → ℕ → List ℕ
decided_at rate estimate symbol number =
    let bin = bin_of (data_carrier_of number) in
    decided_over rate (entry estimate bin) (entry symbol bin)

-- the decision at a place of a symbol, interleaved: N_BPSC bits a data number, one number after another
abbrev pub decision_at : Rate → List Cx → List Cx → ℕ → ℕ
decision_at rate estimate symbol place =
    let width = (row_of rate).bits_per_carrier in
    slice_index (decided_at rate estimate symbol (place / width)) (place % width)

-- all N_CBPS of them
unfoldable pub interleaved_decisions : Rate → List Cx → List Cx → List ℕ
interleaved_decisions rate estimate symbol =
    map (decision_at rate estimate symbol) (range_with_len 0 (row_of rate).coded_bits)
