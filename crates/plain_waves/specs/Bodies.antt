-- The 64 samples of a body, from what its carriers carry, by bin (own scale).
use Rattle.std.specs.Prelude.{ℕ, List, map}
use Rattle.std.specs.List.{range_with_len}
use Rattle.fixed_complex.specs.declared.Cx.{Cx}
use Rattle.fixed_complex.specs.declared.Sample.{Sample}
use Rattle.butterfly64.specs.StagedSums.{up_at}
use Rattle.butterfly64.specs.PlainSums.{plain_up}
use Rattle.fixed_complex.specs.PairLists.{by_256}
use Rattle.fixed_complex.specs.Pairs.{rounded_pair}
use Rattle.fixed_complex.specs.Samples.{as_sample}

-- a sample whose parts are those of a pair over 2^bits, rounded half up
abbrev pub sample_of : ℕ → Cx → Sample
sample_of bits z = as_sample (rounded_pair bits z)

-- the plain body: 2^21 times a real sample
abbrev pub plain_body : (ℕ → Cx) → ℕ → Cx
plain_body carried n = plain_up carried n

-- the plain body rounded half up to samples
abbrev pub plain_sample : (ℕ → Cx) → ℕ → Sample
plain_sample carried n = sample_of 21 (plain_body carried n)

-- the body that is sent: the staged sums of the carriers times 256, over 512 and rounded half up
abbrev pub sent_body : (ℕ → Cx) → ℕ → Sample
sent_body carried n = sample_of 9 (up_at 6 (by_256 carried) n)

-- the 64 samples of a body
abbrev pub all_times : {A : Type 0} → (ℕ → A) → List A
all_times body = map body (range_with_len 0 64)
