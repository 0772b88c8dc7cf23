-- Plain sums over a turn, each a sum over all places with entries of the table of turns, rounded nowhere else (own).
use Rattle.std.specs.Prelude.{ℕ, ◌*◌}
use Rattle.fixed_complex.specs.declared.Cx.{Cx}
use Rattle.fixed_complex.specs.Laws.{sum_below}
use Rattle.fixed_complex.specs.Pairs.{conjugate, times}
use Rattle.fixed_complex.specs.Turns.{turn_at}

-- the sum over the 64 bins c of X(c) * T[c*n]
abbrev pub plain_up : (ℕ → Cx) → ℕ → Cx
plain_up x n = sum_below 64 (λ c. times (x c) (turn_at (c * n)))

-- the sum over the 64 times n of r(n) * conj T[c*n]
abbrev pub plain_down : (ℕ → Cx) → ℕ → Cx
plain_down r c = sum_below 64 (λ n. times (r n) (conjugate (turn_at (c * n))))
