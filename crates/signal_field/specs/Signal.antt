-- The bits of the SIGNAL field (IEEE Std 802.11-2012, 18.3.4).
use Rattle.std.specs.Prelude.{ℕ, ◌%◌, List, ◌∷◌, ◌++◌, map, replicate, sum}
use Rattle.std.specs.Int.{bit_at}
use Rattle.std.specs.List.{range_with_len}
use Rattle.rate_table.specs.declared.Rate.{Rate}
use Rattle.rate_table.specs.Table.{row_of}

-- so many bits of a number, the least significant first
unfoldable pub bits_of_number : ℕ → ℕ → List ℕ
bits_of_number count number = map (bit_at number) (range_with_len 0 count)

-- RATE (18.3.4.2): R1 to R4, which the number of the pattern has in this order
abbrev pub rate_bits : Rate → List ℕ
rate_bits rate = bits_of_number 4 (row_of rate).pattern

-- bits 0 to 16: R1 to R4, the reserved bit (18.3.4.4), and the 12 bits of LENGTH, the least
-- significant first (18.3.4.3)
unfoldable pub front_bits_of : Rate → ℕ → ℕ → List ℕ
front_bits_of rate length reserved = rate_bits rate ++ reserved ∷ bits_of_number 12 length

-- the bit behind others that makes the sum of all even (18.3.4.4)
abbrev pub even_parity : List ℕ → ℕ
even_parity bits = sum bits % 2

-- the 24 bits: those, their even parity, and the tail of six zeros (18.3.4.4)
unfoldable pub header_bits_of : Rate → ℕ → ℕ → List ℕ
header_bits_of rate length reserved =
    let front = front_bits_of rate length reserved in
    front ++ even_parity front ∷ replicate 6 0
