-- Mirror order of 2^k places: each place stands where its bits, read backwards, say (own).
use Rattle.std.specs.Prelude.{ℕ, zero, suc, ◌+◌, ◌*◌, ◌/◌, ◌%◌, ◌^◌}

-- the number with the k bits of another in backward order
unfoldable pub mirror_of : ℕ → ℕ → ℕ
mirror_of zero n = 0
mirror_of (suc k) n = (n % 2) * 2 ^ k + mirror_of k (n / 2)
