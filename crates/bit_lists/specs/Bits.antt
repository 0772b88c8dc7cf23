-- Bits, and the bits of octets (IEEE Std 802.11-2012, clause 18).
use Rattle.std.specs.Prelude.{ℕ, ◌+◌, ◌*◌, ◌/◌, ◌%◌, ◌^◌, ◌<◌, List, length, map, slice_index, All}
use Rattle.std.specs.Int.{bit_at}
use Rattle.std.specs.List.{flat_map, range_with_len, sum_by}

-- a bit is 0 or 1
abbrev pub IsBit : ℕ → Type 0
IsBit bit = bit < 2

abbrev pub AreBits : List ℕ → Type 0
AreBits bits = All IsBit bits

-- the exclusive or of two bits: their sum modulo 2
abbrev pub exclusive_or : ℕ → ℕ → ℕ
exclusive_or a b = (a + b) % 2

-- the eight bits of an octet, the least significant first
unfoldable pub bits_of_octet : ℕ → List ℕ
bits_of_octet octet = map (bit_at octet) (range_with_len 0 8)

-- the bits of octets: eight per octet, in the octets' order
abbrev pub bits_of_octets : List ℕ → List ℕ
bits_of_octets octets = flat_map bits_of_octet octets

-- an octet is below 256
abbrev pub IsOctet : ℕ → Type 0
IsOctet octet = octet < 256

abbrev pub AreOctets : List ℕ → Type 0
AreOctets octets = All IsOctet octets

-- the octet whose bits are the eight from a place on, the least significant first
unfoldable pub octet_at : List ℕ → ℕ → ℕ
octet_at bits place = sum_by (λ i. 2 ^ i * slice_index bits (place + i)) (range_with_len 0 8)

-- the octets of bits: one for every eight
unfoldable pub octets_of_bits : List ℕ → List ℕ
octets_of_bits bits = map (λ k. octet_at bits (8 * k)) (range_with_len 0 (length bits / 8))
