-- A frame has few symbols.
use Rattle.std.proofs.Common.{ℕ, ◌≤◌, arith}
use Rattle.rate_table.specs.declared.Rate.{Rate}
use Rattle.rate_table.specs.Table.{row_of}
use Rattle.rate_table.specs.Symbols.{symbol_count}
use Rattle.rate_table.proofs.ByRate.{by_rate}

pub few_symbols : (rate : Rate) (octets : ℕ) → octets ≤ 4095 → symbol_count (row_of rate).field_bits octets ≤ 1366
few_symbols rate octets short =
    by_rate (λ r. symbol_count (row_of r).field_bits octets ≤ 1366)
    (omega arith) (omega arith) (omega arith) (omega arith) (omega arith) (omega arith) (omega arith) (omega arith) rate
