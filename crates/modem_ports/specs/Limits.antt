-- How much is read (own).
use Rattle.std.specs.Prelude.{ℕ}

-- the most bytes of an input: those of 2^24 samples
abbrev pub most_input : ℕ
most_input = 67108864
