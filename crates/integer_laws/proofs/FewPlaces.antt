-- What holds of each of the first four or eight places.
use Rattle.std.proofs.Common.{ℕ, zero, suc, ◌<◌, arith}

pub at_four : (P : ℕ → Type 0) → P 0 → P 1 → P 2 → P 3 → (k : ℕ) → k < 4 → P k
at_four P a b c d zero lt = a
at_four P a b c d (suc zero) lt = b
at_four P a b c d (suc (suc zero)) lt = c
at_four P a b c d (suc (suc (suc zero))) lt = d
at_four P a b c d (suc (suc (suc (suc k)))) lt = absurd (omega arith)

pub at_eight : (P : ℕ → Type 0) → P 0 → P 1 → P 2 → P 3 → P 4 → P 5 → P 6 → P 7 → (l : ℕ) → l < 8 → P l
at_eight P a b c d e f g h zero lt = a
at_eight P a b c d e f g h (suc zero) lt = b
at_eight P a b c d e f g h (suc (suc zero)) lt = c
at_eight P a b c d e f g h (suc (suc (suc zero))) lt = d
at_eight P a b c d e f g h (suc (suc (suc (suc zero)))) lt = e
at_eight P a b c d e f g h (suc (suc (suc (suc (suc zero))))) lt = f
at_eight P a b c d e f g h (suc (suc (suc (suc (suc (suc zero)))))) lt = g
at_eight P a b c d e f g h (suc (suc (suc (suc (suc (suc (suc zero))))))) lt = h
at_eight P a b c d e f g h (suc (suc (suc (suc (suc (suc (suc (suc l)))))))) lt = absurd (omega arith)
