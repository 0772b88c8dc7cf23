-- The eight rates at 20 MHz spacing (IEEE Std 802.11-2012, 18.3.2.3 and 18.3.4.2; the two bounds
-- and the number of a pattern are own).
use Rattle.std.specs.Prelude.{ℕ, ◌+◌, ◌*◌, List, [], ◌∷◌, slice_index_or}
use Rattle.rate_table.specs.declared.Modulation.{Modulation}
use Rattle.rate_table.specs.declared.Modulation.TheVariants.{Bpsk, Qpsk, Qam16, Qam64}
use Rattle.rate_table.specs.declared.CodeRate.{CodeRate}
use Rattle.rate_table.specs.declared.CodeRate.TheVariants.{Half, TwoThirds, ThreeQuarters}
use Rattle.rate_table.specs.declared.Rate.{Rate}
use Rattle.rate_table.specs.declared.Rate.TheVariants.{R6, R9, R12, R18, R24, R36, R48, R54}

-- a row of the table: megabits a second, modulation, code rate, N_BPSC, N_CBPS, N_DBPS, the number
-- of the RATE pattern, the noise bound of a sample's component, and the bound of flipped bits
pub record Row : Type 0 where
  pub mbps : ℕ
  pub modulation : Modulation
  pub code_rate : CodeRate
  pub bits_per_carrier : ℕ
  pub coded_bits : ℕ
  pub field_bits : ℕ
  pub pattern : ℕ
  pub noise_bound : ℕ
  pub flip_bound : ℕ

-- the number of a RATE pattern R1 R2 R3 R4
abbrev pub pattern_number : ℕ → ℕ → ℕ → ℕ → ℕ
pattern_number r1 r2 r3 r4 = r1 + 2 * r2 + 4 * r3 + 8 * r4

-- N_BPSC of a modulation: the coded bits of a carrier
abbrev pub bits_of_modulation : Modulation → ℕ
bits_of_modulation Bpsk = 1
bits_of_modulation Qpsk = 2
bits_of_modulation Qam16 = 4
bits_of_modulation Qam64 = 6

-- how many flipped bits a decoder repairs at a code rate
abbrev pub flip_bound_of : CodeRate → ℕ
flip_bound_of Half = 4
flip_bound_of TwoThirds = 2
flip_bound_of ThreeQuarters = 2

-- a row by what the modulation and the code rate don't give
abbrev pub row : ℕ → Modulation → CodeRate → ℕ → ℕ → ℕ → ℕ → Row
row mbps modulation code_rate coded_bits field_bits pattern noise_bound = record {
  mbps = mbps;
  modulation = modulation;
  code_rate = code_rate;
  bits_per_carrier = bits_of_modulation modulation;
  coded_bits = coded_bits;
  field_bits = field_bits;
  pattern = pattern;
  noise_bound = noise_bound;
  flip_bound = flip_bound_of code_rate;
}

-- the row of a rate
abbrev pub row_of : Rate → Row
row_of R6 = row 6 Bpsk Half 48 24 (pattern_number 1 1 0 1) 64
row_of R9 = row 9 Bpsk ThreeQuarters 48 36 (pattern_number 1 1 1 1) 64
row_of R12 = row 12 Qpsk Half 96 48 (pattern_number 0 1 0 1) 36
row_of R18 = row 18 Qpsk ThreeQuarters 96 72 (pattern_number 0 1 1 1) 36
row_of R24 = row 24 Qam16 Half 192 96 (pattern_number 1 0 0 1) 16
row_of R36 = row 36 Qam16 ThreeQuarters 192 144 (pattern_number 1 0 1 1) 16
row_of R48 = row 48 Qam64 TwoThirds 288 192 (pattern_number 0 0 0 1) 8
row_of R54 = row 54 Qam64 ThreeQuarters 288 216 (pattern_number 0 0 1 1) 8

-- the eight rates, in the order of the table
abbrev pub rates : List Rate
rates = R6 ∷ R9 ∷ R12 ∷ R18 ∷ R24 ∷ R36 ∷ R48 ∷ R54 ∷ []

-- the rate with an index, 0 to 7, in that order (own)
abbrev pub rate_at : ℕ → Rate
rate_at index = slice_index_or rates index R6
