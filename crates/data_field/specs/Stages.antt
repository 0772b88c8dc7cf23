-- The bits of the DATA field after each stage, at a rate (IEEE Std 802.11-2012, 18.3.5.5 to
-- 18.3.5.7).
use Rattle.std.specs.Prelude.{ℕ, List, length}
use Rattle.rate_table.specs.declared.Rate.{Rate}
use Rattle.rate_table.specs.Table.{row_of}
use Rattle.rate_table.specs.Symbols.{symbol_count}
use Rattle.conv_code.specs.Code.{code_of}
use Rattle.puncture_map.specs.Kept.{kept_code}
use Rattle.interleave_two.specs.Place.{interleaved_symbols}
use Rattle.data_field.specs.Field.{data_field}

-- the field of a rate
abbrev pub field_at : Rate → ℕ → List ℕ → List ℕ
field_at rate seed psdu = data_field (row_of rate).field_bits seed psdu

-- its code before puncturing
abbrev pub code_at : Rate → ℕ → List ℕ → List ℕ
code_at rate seed psdu = code_of (field_at rate seed psdu)

-- its kept code
abbrev pub kept_at : Rate → ℕ → List ℕ → List ℕ
kept_at rate seed psdu = kept_code (row_of rate).code_rate (field_at rate seed psdu)

-- the bits of all its symbols after interleaving
abbrev pub interleaved_at : Rate → ℕ → List ℕ → List ℕ
interleaved_at rate seed psdu =
    interleaved_symbols rate (symbol_count (row_of rate).field_bits (length psdu))
    (kept_at rate seed psdu)
