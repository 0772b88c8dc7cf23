-- What holds of bits.
use Rattle.std.proofs.Common.{◌≡◌, ℕ, zero, suc, List, [], ◌∷◌, length, slice_index, bit_xor, inl, inr, refl, arith}
use Rattle.std.proofs.lemmas.Bool.{cases_lt}
use Rattle.std.proofs.lemmas.List.{get_or_past}
use Rattle.std.proofs.lemmas.List.Elements.{All-append, All-map, All-nil}
use Rattle.std.specs.Int.{bit_at}
use Rattle.std.specs.List.{range_with_len}
use Rattle.bit_lists.specs.Bits.{IsBit, AreBits, bits_of_octet, bits_of_octets, exclusive_or}

-- an entry of a list of bits is a bit, and so is what is read past its end
pub IsBit-slice_index : (bits : List ℕ) (place : ℕ) → AreBits bits → IsBit (slice_index bits place)
IsBit-slice_index bits place are =
    elim (cases_lt place (length bits)) [ inl within ↦ are place 0 within | inr past ↦ rw (get_or_past bits place 0 past) (omega arith) ]

-- a fact of two bits, by their four cases
pub on_two_bits : (P : ℕ → ℕ → Type 0) → P 0 0 → P 0 1 → P 1 0 → P 1 1 → (a b : ℕ) → IsBit a → IsBit b → P a b
on_two_bits P none second first both zero zero p q = none
on_two_bits P none second first both zero (suc zero) p q = second
on_two_bits P none second first both (suc zero) zero p q = first
on_two_bits P none second first both (suc zero) (suc zero) p q = both
on_two_bits P none second first both (suc (suc a)) b p q = absurd (omega arith)
on_two_bits P none second first both a (suc (suc b)) p q = absurd (omega arith)

-- one bit `^` another
pub bit_xor_is : (a b : ℕ) → IsBit a → IsBit b → bit_xor a b ≡ exclusive_or a b
bit_xor_is = on_two_bits (λ a b. bit_xor a b ≡ exclusive_or a b) refl refl refl refl

-- the bits of octets are bits
pub AreBits-bits_of_octet : (octet : ℕ) → AreBits (bits_of_octet octet)
unfolding bits_of_octet
AreBits-bits_of_octet octet = All-map IsBit (bit_at octet) (range_with_len 0 8) (λ k d within. omega arith)

pub AreBits-bits_of_octets : (octets : List ℕ) → AreBits (bits_of_octets octets)
AreBits-bits_of_octets [] = All-nil IsBit
AreBits-bits_of_octets (octet ∷ octets) =
    All-append IsBit (bits_of_octet octet) (bits_of_octets octets) (AreBits-bits_of_octet octet) (AreBits-bits_of_octets octets)
