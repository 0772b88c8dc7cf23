-- What bits say, fault by fault, and that the bits of a header say it.
use Rattle.std.proofs.Common.{◌≡◌, ℕ, ◌<◌, ◌^◌, List, take, drop, slice_index_or, refl, sym, ap, ◌∙◌, arith}
use Rattle.std.specs.Prelude.{◌≢◌, Option, Some, Ok, Err}
use Rattle.std.proofs.lemmas.Bool.{ne_eqb}
use Rattle.rate_table.specs.declared.Rate.{Rate}
use Rattle.rate_table.specs.Table.{row_of}
use Rattle.rate_table.proofs.ByRate.{by_rate}
use Rattle.signal_field.specs.declared.HeaderFault.TheVariants.{BadParity, ZeroLength}
use Rattle.signal_field.specs.Headers.{header_in, header_of, number_of_bits, rate_of_pattern}
use Rattle.signal_field.specs.Laws.{BitsSayHeader}
use Rattle.signal_field.specs.Signal.{bits_of_number, even_parity, front_bits_of, header_bits_of}
use Rattle.signal_field.proofs.Signal.{even_sum}
use Rattle.signal_field.proofs.Numbers.{pattern_named}

-- an odd sum
pub says_parity : (bits : List ℕ) → even_parity (take 18 bits) ≡ 1 → header_in bits ≡ Err BadParity
unfolding header_in
says_parity bits odd = rw odd refl

-- else it goes by the rate of the pattern
pub says_more : (bits : List ℕ) (pattern length : ℕ) (rate : Option Rate) → even_parity (take 18 bits) ≢ 1 → pattern ≡ number_of_bits (take 4 bits) → length ≡ number_of_bits (take 12 (drop 5 bits)) → rate_of_pattern pattern ≡ rate → header_in bits ≡ header_of pattern rate length (slice_index_or bits 4 0)
unfolding header_in
says_more bits pattern length rate even at_pattern at_length at_rate =
    rw (ne_eqb (even_parity (take 18 bits)) 1 even, ← at_pattern, ← at_length, at_rate) refl

-- a rate and LENGTH 0, and another LENGTH
pub zero_length : (pattern length reserved : ℕ) (rate : Rate) → length ≡ 0 → header_of pattern (Some rate) length reserved ≡ Err ZeroLength
zero_length pattern length reserved rate zero = rw zero refl

pub some_length : (pattern length reserved : ℕ) (rate : Rate) → length ≢ 0 → header_of pattern (Some rate) length reserved ≡ Ok (record { rate = rate; length = length; reserved = reserved })
some_length pattern length reserved rate some = rw (ne_eqb length 0 some) refl

-- the numbers in a header's bits
pattern_in : (rate : Rate) (length reserved : ℕ) → number_of_bits (take 4 (header_bits_of rate length reserved)) ≡ (row_of rate).pattern
unfolding header_bits_of front_bits_of bits_of_number number_of_bits
pattern_in =
    by_rate (λ rate. (length reserved : ℕ) → number_of_bits (take 4 (header_bits_of rate length reserved)) ≡ (row_of rate).pattern)
    (λ n r. refl) (λ n r. refl) (λ n r. refl) (λ n r. refl) (λ n r. refl) (λ n r. refl) (λ n r. refl) (λ n r. refl)

length_in : (rate : Rate) (length reserved : ℕ) → length < 2 ^ 12 → number_of_bits (take 12 (drop 5 (header_bits_of rate length reserved))) ≡ length
unfolding header_bits_of front_bits_of bits_of_number number_of_bits
length_in rate length reserved fits = omega arith

-- the reserved bit is bit 4
reserved_in : (rate : Rate) (length reserved : ℕ) → slice_index_or (header_bits_of rate length reserved) 4 0 ≡ reserved
unfolding header_bits_of front_bits_of bits_of_number
reserved_in rate length reserved = refl

-- the bits of a header say it
pub bits_say_header : BitsSayHeader
bits_say_header rate length reserved is_length is_bit =
    let bits = header_bits_of rate length reserved in
    let pattern = (row_of rate).pattern in
    let even : even_parity (take 18 bits) ≢ 1 = λ odd. let none = even_sum rate length reserved in absurd (omega (arith, none, odd)) in
    says_more bits pattern length (Some rate) even (sym (pattern_in rate length reserved)) (sym (length_in rate length reserved (omega (arith, is_length.1)))) (pattern_named rate)
    ∙ ap (header_of pattern (Some rate) length) (reserved_in rate length reserved)
    ∙ some_length pattern length reserved rate (λ zero. absurd (omega (arith, is_length.0, zero)))
