-- The interleaver of one symbol, in its two permutations (IEEE Std 802.11-2012, 18.3.5.7).
use Rattle.std.specs.Prelude.{ℕ, ◌+◌, ◌-◌, ◌*◌, ◌/◌, ◌%◌, ◌==◌, List, map, max, take, drop, slice_index}
use Rattle.std.specs.List.{range_with_len, flat_map, position_or_len}
use Rattle.rate_table.specs.declared.Rate.{Rate}
use Rattle.rate_table.specs.Table.{row_of}

-- the first permutation of N_CBPS bits: neighbours go to carriers apart
abbrev pub first_place : ℕ → ℕ → ℕ
first_place coded_bits k = (coded_bits / 16) * (k % 16) + k / 16

-- the second permutation, within groups of s bits: neighbours go to more and less significant bits
-- in turn
abbrev pub second_place : ℕ → ℕ → ℕ → ℕ
second_place coded_bits s i = s * (i / s) + ((i + coded_bits) - (16 * i) / coded_bits) % s

-- s: half the bits of a carrier, and at least 1
abbrev pub group_of : ℕ → ℕ
group_of bits_per_carrier = max (bits_per_carrier / 2) 1

-- the place to which bit k goes, for N_CBPS and N_BPSC
abbrev pub place_in : ℕ → ℕ → ℕ → ℕ
place_in coded_bits bits_per_carrier k =
    second_place coded_bits (group_of bits_per_carrier) (first_place coded_bits k)

-- the place to which bit k goes
unfoldable pub interleaved_place : Rate → ℕ → ℕ
interleaved_place rate k = place_in (row_of rate).coded_bits (row_of rate).bits_per_carrier k

-- the place k whose bit goes to place j: the first of all places that does
unfoldable pub source_of : Rate → ℕ → ℕ
source_of rate j =
    position_or_len (λ k. interleaved_place rate k == j) (range_with_len 0 (row_of rate).coded_bits)

-- the N_CBPS bits of a symbol, interleaved: at place j stands the bit that goes there
abbrev pub interleaved : Rate → List ℕ → List ℕ
interleaved rate bits =
    map (λ j. slice_index bits (source_of rate j)) (range_with_len 0 (row_of rate).coded_bits)

-- and back: at place k stands the bit at the place to which k goes
abbrev pub deinterleaved : Rate → List ℕ → List ℕ
deinterleaved rate bits =
    map (λ k. slice_index bits (interleaved_place rate k))
    (range_with_len 0 (row_of rate).coded_bits)

-- the bits of symbol m: the m-th group of N_CBPS bits
abbrev pub symbol_bits : Rate → List ℕ → ℕ → List ℕ
symbol_bits rate bits m = take (row_of rate).coded_bits (drop (m * (row_of rate).coded_bits) bits)

-- the bits of so many symbols, each symbol's interleaved, one symbol after another
abbrev pub interleaved_symbols : Rate → ℕ → List ℕ → List ℕ
interleaved_symbols rate symbols bits =
    flat_map (λ m. interleaved rate (symbol_bits rate bits m)) (range_with_len 0 symbols)
