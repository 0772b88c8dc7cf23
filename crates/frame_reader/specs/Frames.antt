-- The header and the field of a frame, by any decisions of its symbols (own). Decisions are a function of the rate and
-- the number of the symbol, in the order of the code: symbol 0 is SIGNAL, symbol m + 1 is DATA symbol m.
use Rattle.std.specs.Prelude.{◌≡◌, ℕ, ◌+◌, ◌*◌, List, true, Result, Ok}
use Rattle.std.specs.List.{flat_map, range_with_len}
use Rattle.fixed_complex.specs.declared.Sample.{Sample}
use Rattle.rate_table.specs.declared.Rate.{Rate}
use Rattle.rate_table.specs.declared.Rate.TheVariants.{R6}
use Rattle.rate_table.specs.Symbols.{symbol_count}
use Rattle.rate_table.specs.Table.{row_of}
use Rattle.signal_field.specs.declared.Header.{Header}
use Rattle.signal_field.specs.declared.HeaderFault.{HeaderFault}
use Rattle.signal_field.specs.Headers.{IsReadAs}
use Rattle.frame_fields.specs.Fields.{IsFieldOf}
use Rattle.frame_search.specs.Match.{matches, part}
use Rattle.frame_reader.specs.Decisions.{plain_decisions}

-- what SIGNAL says, which is sent as at 6 Mb/s: a header, or its fault
abbrev pub SaysHeader : (Rate → ℕ → List ℕ) → Result Header HeaderFault → Type 0
SaysHeader decisions read = IsReadAs (decisions R6 0) read

-- N_SYM of a header
abbrev pub symbols_of : Header → ℕ
symbols_of header = symbol_count (row_of header.rate).field_bits header.length

-- how many samples its frame has
abbrev pub need_of : Header → ℕ
need_of header = 400 + 80 * symbols_of header

-- the decisions of the first so many DATA symbols, one symbol after another
unfoldable pub data_decisions : (Rate → ℕ → List ℕ) → Rate → ℕ → List ℕ
data_decisions decisions rate symbols = flat_map (λ m. decisions rate (m + 1)) (range_with_len 0 symbols)

-- the number and the PSDU of a header's field: those of the decisions of all its DATA symbols
abbrev pub HasField : (Rate → ℕ → List ℕ) → Header → ℕ → List ℕ → Type 0
HasField decisions header number psdu =
    (least : ℕ)
    × IsFieldOf header.rate header.length (data_decisions decisions header.rate (symbols_of header)) number psdu least

-- a frame with this header opens samples, by the plain decisions: the first 320 match the training fields, and the
-- header is good
pub record Opens (samples : List Sample) (header : Header) : Type 0 where
  pub like : matches (part samples 0 320) ≡ true
  pub says : SaysHeader (plain_decisions samples) (Ok header)
