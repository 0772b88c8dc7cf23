-- Signs of carriers, written as the standard lists them, from carrier -26 to carrier 26 (IEEE Std 802.11-2012, 18.3.3,
-- 18.3.5.9 and 18.3.5.10).
use Rattle.std.specs.Prelude.{ℕ, ◌==◌, List, slice_index, ℤ, pos, negsuc, ◌+ℤ◌, if◌then◌else◌}

-- a sign's character: the code of + is 43, for 1, that of - is 45, for -1; any other stands for 0
abbrev pub sign_of : ℕ → ℤ
sign_of character = if character == 43 then pos 1 else if character == 45 then negsuc 0 else pos 0

-- the sign at a place of a text, and 0 outside it
abbrev pub sign_in : List ℕ → ℤ → ℤ
sign_in signs (pos place) = sign_of (slice_index signs place)
sign_in signs (negsuc before) = pos 0

-- the sign of a carrier in a text of signs from carrier -26 on
unfoldable pub sign_at : List ℕ → ℤ → ℤ
sign_at signs carrier = sign_in signs (carrier +ℤ pos 26)
