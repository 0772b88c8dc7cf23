-- The frames of a drill, drawn from the words of generators (own). The step from word to word is the one that rand_pcg
-- states.
use Rattle.std.specs.Prelude.{ℕ, ◌+◌, ◌%◌, List, map}
use Rattle.std.specs.List.{range_with_len}
use Rattle.frame_lists.specs.Near.{SentFrame}
use Rattle.rand_pcg.specs.Lcg.{Lcg, advance, increment_of, started}
use Rattle.rand_pcg.specs.Pcg.{multiplier_64, pcg32}
use Rattle.rate_table.specs.Table.{rate_at}

-- the generator of a frame's number, on stream 11, behind so many of its words
unfoldable pub generator_behind : ℕ → ℕ → Lcg
generator_behind number words =
    advance 64 multiplier_64 words (started 64 multiplier_64 number (increment_of 64 11))

-- a word of that generator, counted from 0
unfoldable pub word_of : ℕ → ℕ → ℕ
word_of number n = (pcg32 (generator_behind number n)).0

-- so many octets, one of each word from word 4 on
abbrev pub drawn_octets : ℕ → ℕ → List ℕ
drawn_octets number count = map (λ n. word_of number n % 256) (range_with_len 4 count)

-- the frame of a number: word 0 gives its rate, word 1 its LENGTH, word 2 its seed, word 3 how many silent samples stand
-- before it, and the words behind them its octets
unfoldable pub drawn : ℕ → SentFrame
drawn number = record {
  start = word_of number 3 % 2048;
  rate = rate_at (word_of number 0 % 8);
  seed = 1 + word_of number 2 % 127;
  psdu = drawn_octets number (1 + word_of number 1 % 4095);
}
