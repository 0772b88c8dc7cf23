-- Counts of faults, calls and steps (own).
use Rattle.std.specs.Prelude.{ℕ, ◌+◌, ◌-◌, ◌^◌, ◌<◌, ◌≡◌, ◌⊎◌, min}

-- the last number of a `u64`, at which a count stands still
abbrev pub count_end : ℕ
count_end = 2 ^ 64 - 1

-- a count after some more, which stands still at its type's end
abbrev pub raised_by : ℕ → ℕ → ℕ
raised_by more count = min (count + more) count_end

-- a count rose: it is larger than before, or it stands at its type's end
abbrev pub Rose : ℕ → ℕ → Type 0
Rose before after = (before < after) ⊎ (after ≡ count_end)
