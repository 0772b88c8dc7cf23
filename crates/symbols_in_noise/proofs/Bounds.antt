-- The arithmetic of noise alone, for each modulation.
use Rattle.std.proofs.Common.{ℕ, ◌+◌, ◌*◌, ◌≤◌, arith}
use Rattle.rate_table.specs.declared.Modulation.{Modulation}
use Rattle.rate_table.specs.declared.Modulation.TheVariants.{Bpsk, Qpsk, Qam16, Qam64}
use Rattle.rate_table.specs.declared.Rate.{Rate}
use Rattle.rate_table.specs.declared.Rate.TheVariants.{R6, R9, R12, R18, R24, R36, R48, R54}
use Rattle.rate_table.specs.Table.{row_of}
use Rattle.decided_axis.specs.Channels.{Allows}

-- what a modulation's noise bound leaves of the estimate, 41472 less twice the error of a carrier
abbrev pub left_in_noise : Modulation → ℕ
left_in_noise Bpsk = 29683
left_in_noise Qpsk = 34779
left_in_noise Qam16 = 38419
left_in_noise Qam64 = 39875

-- a bound allows a modulation, noise being all that a carrier and the estimate suffer
abbrev pub AllowsNoise : Modulation → ℕ → Type 0
AllowsNoise modulation bound = Allows modulation 1 (91 * bound + 70) (2 * (91 * bound + 70)) 1 (left_in_noise modulation)

bpsk_64 : (bound : ℕ) → bound ≤ 64 → AllowsNoise Bpsk bound
bpsk_64 bound most = record { some = omega arith; leaves = omega arith; enough = omega arith }

qpsk_36 : (bound : ℕ) → bound ≤ 36 → AllowsNoise Qpsk bound
qpsk_36 bound most = record { some = omega arith; leaves = omega arith; enough = omega arith }

qam16_16 : (bound : ℕ) → bound ≤ 16 → AllowsNoise Qam16 bound
qam16_16 bound most = record { some = omega arith; leaves = omega arith; enough = omega arith }

qam64_8 : (bound : ℕ) → bound ≤ 8 → AllowsNoise Qam64 bound
qam64_8 bound most = record { some = omega arith; leaves = omega arith; enough = omega arith }

pub noise_allows : (rate : Rate) (bound : ℕ) → bound ≤ (row_of rate).noise_bound → AllowsNoise (row_of rate).modulation bound
noise_allows R6 = bpsk_64
noise_allows R9 = bpsk_64
noise_allows R12 = qpsk_36
noise_allows R18 = qpsk_36
noise_allows R24 = qam16_16
noise_allows R36 = qam16_16
noise_allows R48 = qam64_8
noise_allows R54 = qam64_8
