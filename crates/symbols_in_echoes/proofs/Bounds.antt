-- The arithmetic of echoes, for each modulation.
use Rattle.std.proofs.Common.{ℕ, ◌+◌, ◌*◌, ◌^◌, ◌≤◌, arith}
use Rattle.rate_table.specs.declared.Modulation.{Modulation}
use Rattle.rate_table.specs.declared.Modulation.TheVariants.{Bpsk, Qpsk, Qam16, Qam64}
use Rattle.rate_table.specs.declared.Rate.{Rate}
use Rattle.rate_table.specs.declared.Rate.TheVariants.{R6, R9, R12, R18, R24, R36, R48, R54}
use Rattle.rate_table.specs.Table.{row_of}
use Rattle.rate_table.proofs.ByRate.{by_rate}
use Rattle.decided_axis.specs.Channels.{Allows}
use Rattle.symbols_in_echoes.specs.Laws.{echo_bound_of}

-- what half of a modulation's noise bound leaves of the estimate: 41472 times 0.75, less twice the error of a carrier
abbrev pub left_in_echoes : Modulation → ℕ
left_in_echoes Bpsk = 25101
left_in_echoes Qpsk = 27649
left_in_echoes Qam16 = 29469
left_in_echoes Qam64 = 30197

-- a bound allows a modulation in echoes
abbrev pub AllowsEchoes : Modulation → ℕ → Type 0
AllowsEchoes modulation bound = Allows modulation (2 ^ 30) (91 * bound + 89) (2 * (91 * bound + 89)) 805306111 (left_in_echoes modulation)

bpsk_32 : (bound : ℕ) → bound ≤ 32 → AllowsEchoes Bpsk bound
bpsk_32 bound most = record { some = omega arith; leaves = omega arith; enough = omega arith }

qpsk_18 : (bound : ℕ) → bound ≤ 18 → AllowsEchoes Qpsk bound
qpsk_18 bound most = record { some = omega arith; leaves = omega arith; enough = omega arith }

qam16_8 : (bound : ℕ) → bound ≤ 8 → AllowsEchoes Qam16 bound
qam16_8 bound most = record { some = omega arith; leaves = omega arith; enough = omega arith }

qam64_4 : (bound : ℕ) → bound ≤ 4 → AllowsEchoes Qam64 bound
qam64_4 bound most = record { some = omega arith; leaves = omega arith; enough = omega arith }

pub echoes_allow : (rate : Rate) (bound : ℕ) → bound ≤ echo_bound_of rate → AllowsEchoes (row_of rate).modulation bound
echoes_allow R6 = bpsk_32
echoes_allow R9 = bpsk_32
echoes_allow R12 = qpsk_18
echoes_allow R18 = qpsk_18
echoes_allow R24 = qam16_8
echoes_allow R36 = qam16_8
echoes_allow R48 = qam64_4
echoes_allow R54 = qam64_4

-- no rate's bound is larger than 32, or smaller than 4
pub echo_bound_most : (rate : Rate) → echo_bound_of rate ≤ 32
echo_bound_most = by_rate (λ rate. echo_bound_of rate ≤ 32) (omega arith) (omega arith) (omega arith) (omega arith) (omega arith) (omega arith) (omega arith) (omega arith)

pub echo_bound_least : (rate : Rate) → 4 ≤ echo_bound_of rate
echo_bound_least = by_rate (λ rate. 4 ≤ echo_bound_of rate) (omega arith) (omega arith) (omega arith) (omega arith) (omega arith) (omega arith) (omega arith) (omega arith)
