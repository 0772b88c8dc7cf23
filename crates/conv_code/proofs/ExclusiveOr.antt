-- `^` on bits.
use Rattle.std.proofs.Common.{◌≡◌, ℕ, ◌+◌, ◌%◌, bit_xor, ◌∙◌, arith}
use Rattle.bit_lists.specs.Bits.{IsBit}
use Rattle.bit_lists.proofs.BitFacts.{bit_xor_is}

-- one bit more
bit_xor_more : (x sum b : ℕ) → x ≡ sum % 2 → IsBit b → bit_xor x b ≡ (sum + b) % 2
bit_xor_more x sum b e q = let small : IsBit x = omega arith in bit_xor_is x b small q ∙ omega arith

-- five bits in a row
pub bit_xor_of_five : (a b c d e : ℕ) → IsBit a → IsBit b → IsBit c → IsBit d → IsBit e → bit_xor (bit_xor (bit_xor (bit_xor a b) c) d) e ≡ (a + b + c + d + e) % 2
bit_xor_of_five a b c d e p q r s t =
    bit_xor_more _ (a + b + c + d) e (bit_xor_more _ (a + b + c) d (bit_xor_more _ (a + b) c (bit_xor_is a b p q) r) s) t
