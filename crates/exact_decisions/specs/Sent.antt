-- The coded bits of a frame's symbols, and decisions that are just these (own).
use Rattle.std.specs.Prelude.{◌≡◌, ℕ, zero, suc, ◌≤◌, List, length}
use Rattle.rate_table.specs.declared.Rate.{Rate}
use Rattle.rate_table.specs.declared.Rate.TheVariants.{R6}
use Rattle.rate_table.specs.Symbols.{symbol_count}
use Rattle.rate_table.specs.Table.{row_of}
use Rattle.interleave_two.specs.Place.{symbol_bits}
use Rattle.data_field.specs.Stages.{kept_at}
use Rattle.frame_fields.specs.Frames.{signal_code}

-- the rate at which symbol n is sent: SIGNAL, which is symbol 0, as at 6 Mb/s
abbrev pub rate_of_symbol : Rate → ℕ → Rate
rate_of_symbol rate zero = R6
rate_of_symbol rate (suc m) = rate

-- the coded bits of symbol n: the code of the header, or the m-th group of the kept code of the DATA field
abbrev pub code_of_symbol : Rate → ℕ → List ℕ → ℕ → List ℕ
code_of_symbol rate seed psdu zero = signal_code rate (length psdu)
code_of_symbol rate seed psdu (suc m) = symbol_bits rate (kept_at rate seed psdu) m

-- each symbol of a frame is decided as it was sent
abbrev pub AreAsSent : Rate → ℕ → List ℕ → (Rate → ℕ → List ℕ) → Type 0
AreAsSent rate seed psdu decisions =
    (n : ℕ) → n ≤ symbol_count (row_of rate).field_bits (length psdu)
    → decisions (rate_of_symbol rate n) n ≡ code_of_symbol rate seed psdu n
