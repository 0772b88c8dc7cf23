-- The bits of a header.
use Rattle.std.proofs.Common.{◌≡◌, ℕ, ◌+◌, ◌*◌, ◌/◌, ◌%◌, ◌^◌, ◌<◌, List, ◌∷◌, ◌++◌, length, take, drop, set, get_or, slice_index_or, refl, sym, ap, ◌∙◌, arith}
use Rattle.std.specs.Prelude.{sum, replicate}
use Rattle.std.specs.Int.{bit_at}
use Rattle.std.specs.Int.Bits.{bit_and}
use Rattle.std.specs.List.{flat_map, range_with_len}
use Rattle.std.proofs.lemmas.List.{take_all, take_more_set}
use Rattle.std.proofs.lemmas.List.Elements.{All-append, All-cons, All-map}
use Rattle.std.proofs.lemmas.List.FromFn.{get_or-map-range_with_len, map-range_with_len_more}
use Rattle.std.proofs.lemmas.Nat.Bits.{bit_at-lt, same_from_bits_below, shr_and_one}
use Rattle.bit_lists.specs.Bits.{AreBits, IsBit}
use Rattle.bit_lists.proofs.ByPlace.{AreBits-zeros}
use Rattle.conv_code.specs.Code.{code_of, parities}
use Rattle.rate_table.specs.declared.Rate.{Rate}
use Rattle.rate_table.specs.Table.{row_of}
use Rattle.rate_table.proofs.ByRate.{one_by_pattern, pattern_fits}
use borrow.Rule.Slice.PartMut.{put_mid}
use Rattle.signal_field.specs.Signal.{front_bits_of, bits_of_number, even_parity, header_bits_of}

-- the sum of bits 0 to 17 is even
pub even_sum : (rate : Rate) (length reserved : ℕ) → sum (take 18 (header_bits_of rate length reserved)) % 2 ≡ 0
unfolding header_bits_of front_bits_of bits_of_number
even_sum rate length reserved = omega arith

-- the bits of a number are bits
AreBits-bits_of_number : (count number : ℕ) → AreBits (bits_of_number count number)
unfolding bits_of_number
AreBits-bits_of_number count number =
    All-map IsBit (bit_at number) (range_with_len 0 count) (λ k d lt. bit_at-lt number _)

-- bits 0 to 16 are bits
pub AreBits-front_bits_of : (rate : Rate) (length reserved : ℕ) → IsBit reserved → AreBits (front_bits_of rate length reserved)
unfolding front_bits_of
AreBits-front_bits_of rate length reserved is =
    All-append IsBit (bits_of_number 4 (row_of rate).pattern) (reserved ∷ bits_of_number 12 length) (AreBits-bits_of_number 4 (row_of rate).pattern) (All-cons IsBit reserved (bits_of_number 12 length) is (AreBits-bits_of_number 12 length))

-- all 24 bits are bits
pub AreBits-header_bits_of : (rate : Rate) (length reserved : ℕ) → IsBit reserved → AreBits (header_bits_of rate length reserved)
unfolding header_bits_of
AreBits-header_bits_of rate length reserved is =
    let front = front_bits_of rate length reserved in
    let parity : IsBit (even_parity front) = omega arith in
    All-append IsBit front (even_parity front ∷ replicate 6 0) (AreBits-front_bits_of rate length reserved is) (All-cons IsBit (even_parity front) (replicate 6 0) parity (AreBits-zeros 6))

-- bits 0 to 16 as they are put
pub front_put : (rate : Rate) (length' reserved pattern : ℕ) (first second : List ℕ) → pattern ≡ (row_of rate).pattern → first ≡ bits_of_number 4 pattern → second ≡ bits_of_number (length (take 12 (drop 5 (set (first ++ replicate 13 0) 4 reserved)))) length' → put_mid 5 12 (set (first ++ replicate 13 0) 4 reserved) second ≡ front_bits_of rate length' reserved
unfolding front_bits_of bits_of_number
front_put rate length' reserved pattern first second at_pattern at_first at_second = rw (at_second, at_first, at_pattern) refl

-- the parity behind them
pub parity_put : (rate : Rate) (length' reserved parity : ℕ) (front : List ℕ) → front ≡ front_bits_of rate length' reserved → parity ≡ even_parity front → set (front ++ replicate 7 0) 17 parity ≡ header_bits_of rate length' reserved
unfolding front_bits_of bits_of_number header_bits_of
parity_put rate length' reserved parity front at_front at_parity = rw (at_parity, at_front) refl

-- a header has 24 bits
pub length-header_bits_of : (rate : Rate) (length' reserved : ℕ) → length (header_bits_of rate length' reserved) ≡ 24
unfolding header_bits_of front_bits_of bits_of_number
length-header_bits_of rate length' reserved = refl

-- one bit more of a number
pub number_more : (number k : ℕ) (xs : List ℕ) → k < length xs → take k xs ≡ bits_of_number k number → take (k + 1) (set xs k (bit_and (number / 2 ^ k) 1)) ≡ bits_of_number (k + 1) number
unfolding bits_of_number
number_more number k xs lt before =
    rw (take_more_set xs k (bit_and (number / 2 ^ k) 1) lt, before, shr_and_one number k) (sym (map-range_with_len_more (bit_at number) 0 k k (omega arith)))

-- all 24 places of a code
pub code_whole : (u code : List ℕ) (k : ℕ) → length u ≡ 24 → length code ≡ 48 → k ≡ 24 → take (2 * k) code ≡ flat_map (parities u) (range_with_len 0 k) → code ≡ code_of u
code_whole u code k long whole end coded =
    let all : take 48 code ≡ code = take_all 48 code (omega arith) in
    rw long (rw (end, all) at coded)

-- no other number below 2^count has the same bits
bits_alike : (count a b : ℕ) → a < 2 ^ count → b < 2 ^ count → bits_of_number count a ≡ bits_of_number count b → a ≡ b
unfolding bits_of_number
bits_alike count a b p q e =
    let at = λ (n i : ℕ) (lt : i < count). get_or-map-range_with_len (bit_at n) 0 count i i 0 lt (omega arith) in
    same_from_bits_below count a b p q (λ i lt. sym (at a i lt) ∙ ap (λ (l : List ℕ). get_or l i 0) e ∙ at b i lt)

-- the bits determine rate, LENGTH and the reserved bit
pub headers_alike : (rate rate' : Rate) (length length' reserved reserved' : ℕ) → length < 2 ^ 12 → length' < 2 ^ 12 → header_bits_of rate length reserved ≡ header_bits_of rate' length' reserved' → (rate ≡ rate') × (length ≡ length') × (reserved ≡ reserved')
unfolding header_bits_of front_bits_of bits_of_number
headers_alike rate rate' length length' reserved reserved' p q e =
    let pattern : (row_of rate).pattern ≡ (row_of rate').pattern = bits_alike 4 _ _ (pattern_fits rate) (pattern_fits rate') (ap (λ (l : List ℕ). take 4 l) e) in (
      one_by_pattern rate rate' pattern,
      bits_alike 12 length length' p q (ap (λ (l : List ℕ). take 12 (drop 5 l)) e),
      ap (λ (l : List ℕ). slice_index_or l 4 0) e,
    )
