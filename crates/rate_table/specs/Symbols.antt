-- How long a PSDU and the DATA field are (IEEE Std 802.11-2012, 18.3.4.3 and 18.3.5.4).
use Rattle.std.specs.Prelude.{ℕ, ◌≤◌, ◌+◌, ◌-◌, ◌*◌, ◌/◌}

-- a PSDU has at most so many octets
abbrev pub most_octets : ℕ
most_octets = 4095

-- a PSDU's number of octets is from 1 to 4095
abbrev pub IsLength : ℕ → Type 0
IsLength octets = (1 ≤ octets) × (octets ≤ most_octets)

-- the place of the tail's first bit in a DATA field of so many octets: 16 SERVICE bits and 8 an
-- octet stand before it
abbrev pub tail_place : ℕ → ℕ
tail_place octets = 16 + 8 * octets

-- n_tail: the bits of a DATA field up to the end of its tail of 6
abbrev pub bits_through_tail : ℕ → ℕ
bits_through_tail octets = tail_place octets + 6

-- the ceiling of a quotient
abbrev pub ceiling : ℕ → ℕ → ℕ
ceiling a b = (a + (b - 1)) / b

-- N_SYM: how many symbols of so many field bits a DATA field of so many octets has
abbrev pub symbol_count : ℕ → ℕ → ℕ
symbol_count field_bits octets = ceiling (bits_through_tail octets) field_bits
