-- The scrambler sequence z of a number from 0 to 127 (IEEE Std 802.11-2012, 18.3.5.5; that a number
-- names the seven bits is own). It is defined over all places from -7 on.
use Rattle.std.specs.Prelude.{ℕ, zero, suc, ◌+◌, ◌≤◌, List, map, length, slice_index}
use Rattle.std.specs.List.{range_with_len}
use Rattle.bit_lists.specs.Bits.{exclusive_or}
use Rattle.std.specs.Int.{bit_at}

-- a seed's number (own): seven bits, not all 0
abbrev pub IsSeed : ℕ → Type 0
IsSeed number = (1 ≤ number) × (number ≤ 127)

-- z from place -7 on: entry k is z(k - 7). The first seven entries are x7 to x1, where x_i is
-- bit i - 1 of the number, since z(-i) = x_i; and z(n) = z(n - 7) xor z(n - 4)
unfoldable pub from_minus_seven : ℕ → ℕ → ℕ
from_minus_seven number zero = bit_at number 6
from_minus_seven number (suc zero) = bit_at number 5
from_minus_seven number (suc (suc zero)) = bit_at number 4
from_minus_seven number (suc (suc (suc zero))) = bit_at number 3
from_minus_seven number (suc (suc (suc (suc zero)))) = bit_at number 2
from_minus_seven number (suc (suc (suc (suc (suc zero))))) = bit_at number 1
from_minus_seven number (suc (suc (suc (suc (suc (suc zero)))))) = bit_at number 0
from_minus_seven number (suc (suc (suc (suc (suc (suc (suc k))))))) =
    exclusive_or (from_minus_seven number k) (from_minus_seven number (suc (suc (suc k))))

-- z(n) of the number
abbrev pub scrambler_bit : ℕ → ℕ → ℕ
scrambler_bit number n = from_minus_seven number (n + 7)

-- z(0), z(1) and so on, so many of them
abbrev pub scrambler_sequence : ℕ → ℕ → List ℕ
scrambler_sequence number count = map (scrambler_bit number) (range_with_len 0 count)

-- bit n of a list changed to its exclusive or with z(n)
abbrev pub scrambled : ℕ → List ℕ → List ℕ
scrambled number bits =
    map (λ n. exclusive_or (slice_index bits n) (scrambler_bit number n))
    (range_with_len 0 (length bits))
