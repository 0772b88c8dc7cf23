-- A turn depends on its place modulo 64 alone.
use Rattle.std.proofs.Common.{◌≡◌, ℕ, ◌+◌, ◌*◌, ◌%◌, ◌∙◌, ap, sym, arith, refl}
use Rattle.std.proofs.lemmas.Nat.{mul-mod}
use Rattle.fixed_complex.specs.Turns.{turn_at, cosine_at}
use Rattle.fixed_complex.proofs.Pairs.{same_parts}

same_cosine : (m n : ℕ) → m % 64 ≡ n % 64 → cosine_at m ≡ cosine_at n
same_cosine m n e = rw e refl

pub same_turn : (m n : ℕ) → m % 64 ≡ n % 64 → turn_at m ≡ turn_at n
unfolding turn_at
same_turn m n e = same_parts _ _ (same_cosine m n e) (same_cosine (m + 48) (n + 48) (omega (arith, e)))

-- the turn at a place of the table
pub turn_in_table : (m : ℕ) → turn_at m ≡ turn_at (m % 64)
turn_in_table m = same_turn m (m % 64) (omega arith)

pub turns_of_products : (d n : ℕ) → turn_at (d * n) ≡ turn_at ((d % 64) * n)
turns_of_products d n =
    let twice : d % 64 ≡ d % 64 % 64 = omega arith in
    same_turn (d * n) ((d % 64) * n) (mul-mod d n 64 ∙ ap (λ m. (m * (n % 64)) % 64) twice ∙ sym (mul-mod (d % 64) n 64))

-- whole turns change nothing
pub whole_turns : (a p : ℕ) → turn_at (a + 64 * p) ≡ turn_at a
whole_turns a p = same_turn (a + 64 * p) a (omega arith)
