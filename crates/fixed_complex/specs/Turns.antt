-- The turns of a circle by 64ths, over the cosine table (own).
use Rattle.std.specs.Prelude.{ℕ, ◌+◌, ◌-◌, ◌%◌, min, List, [], ◌∷◌, slice_index, ℤ, pos, neg_ℤ, nat_le, if◌then◌else◌}
use Rattle.fixed_complex.specs.declared.Cx.{Cx}

-- C[0] to C[16]: 2^20 times the cosine of m 64ths of a circle, rounded to a whole number
abbrev pub quarter_cosines : List ℕ
quarter_cosines =
    1048576 ∷ 1043527 ∷ 1028428 ∷ 1003425 ∷ 968758 ∷ 924761 ∷ 871859 ∷ 810560 ∷ 741455 ∷ 665210
    ∷ 582558 ∷ 494295 ∷ 401273 ∷ 304386 ∷ 204567 ∷ 102778 ∷ 0 ∷ []

-- C[0] to C[32], by C[32 - m] = -C[m]
abbrev pub half_cosine : ℕ → ℤ
half_cosine m =
    if nat_le m 16 then pos (slice_index quarter_cosines m)
    else neg_ℤ (pos (slice_index quarter_cosines (32 - m)))

-- C[m] for every m, by C[64 - m] = C[m] and C[m + 64] = C[m]
abbrev pub cosine_at : ℕ → ℤ
cosine_at m = half_cosine (min (m % 64) (64 - m % 64))

-- T[m], the turn of m 64ths of a circle: its cosine, and its sine, which is the cosine of 48 64ths more
unfoldable pub turn_at : ℕ → Cx
turn_at m = record { re = cosine_at m; im = cosine_at (m + 48) }
