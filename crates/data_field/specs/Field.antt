-- The bits of the DATA field (IEEE Std 802.11-2012, 18.3.5.1 to 18.3.5.5), for any number of field
-- bits a symbol.
use Rattle.std.specs.Prelude.{ℕ, ◌+◌, ◌-◌, ◌*◌, List, ◌++◌, length, take, drop, replicate}
use Rattle.bit_lists.specs.Bits.{bits_of_octets}
use Rattle.rate_table.specs.Symbols.{symbol_count, tail_place}
use Rattle.ofdm_scrambler.specs.Sequence.{scrambled}

-- how many bits the field of so many octets has, at so many field bits a symbol: N_SYM * N_DBPS
abbrev pub field_length : ℕ → ℕ → ℕ
field_length field_bits octets = symbol_count field_bits octets * field_bits

-- the field before scrambling: 16 SERVICE bits, all 0, the bits of the octets, and zeros to the end
abbrev pub plain_field : ℕ → List ℕ → List ℕ
plain_field field_bits psdu =
    replicate 16 0 ++ bits_of_octets psdu
    ++ replicate (field_length field_bits (length psdu) - tail_place (length psdu)) 0

-- the bits with the six from a place on set to 0
abbrev pub with_tail : ℕ → List ℕ → List ℕ
with_tail place bits = take place bits ++ replicate 6 0 ++ drop (place + 6) bits

-- the DATA field: scrambled with the seed's sequence, and then the tail set to 0
abbrev pub data_field : ℕ → ℕ → List ℕ → List ℕ
data_field field_bits seed psdu =
    with_tail (tail_place (length psdu)) (scrambled seed (plain_field field_bits psdu))
