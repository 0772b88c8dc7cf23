-- That every symbol has exactly N_CBPS kept bits, since puncturing runs through the field without a
-- restart and a symbol's N_DBPS steps are whole periods (a consequence of IEEE Std 802.11-2012,
-- 18.3.2.3 and 18.3.5.6).
use Rattle.std.specs.Prelude.{◌≡◌, ℕ, ◌*◌, ◌≤◌, List, length, take}
use Rattle.rate_table.specs.declared.CodeRate.{CodeRate}
use Rattle.rate_table.specs.declared.Rate.{Rate}
use Rattle.rate_table.specs.Table.{row_of}
use Rattle.puncture_map.specs.Kept.{kept_list}

-- of the steps of so many symbols of any rate with this code rate, so many times N_CBPS places are
-- kept
abbrev pub CountsWholeSymbols : CodeRate → ℕ → ℕ → Type 0
CountsWholeSymbols code_rate steps count =
    (rate : Rate) (symbols : ℕ) → (row_of rate).code_rate ≡ code_rate
    → steps ≡ symbols * (row_of rate).field_bits
    → count ≡ symbols * (row_of rate).coded_bits

-- the code of so many symbols leaves exactly N_CBPS bits for each
abbrev pub LeavesWholeSymbols : CodeRate → List ℕ → List ℕ → Type 0
LeavesWholeSymbols code_rate code kept =
    (rate : Rate) (symbols : ℕ) → (row_of rate).code_rate ≡ code_rate
    → length code ≡ 2 * (symbols * (row_of rate).field_bits)
    → length kept ≡ symbols * (row_of rate).coded_bits

-- the kept bits of the first so many symbols' code are the first N_CBPS for each
abbrev pub LeavesSymbolBySymbol : CodeRate → List ℕ → List ℕ → Type 0
LeavesSymbolBySymbol code_rate code kept =
    (rate : Rate) (symbols : ℕ) → (row_of rate).code_rate ≡ code_rate
    → 2 * (symbols * (row_of rate).field_bits) ≤ length code
    → take (symbols * (row_of rate).coded_bits) kept
    ≡ kept_list code_rate (take (2 * (symbols * (row_of rate).field_bits)) code)
