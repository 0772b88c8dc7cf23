-- The carriers of 64 received samples, by bin (own scale: a carrier X that was sent comes back as about 32 X).
use Rattle.std.specs.Prelude.{ℕ, List, map}
use Rattle.std.specs.List.{range_with_len}
use Rattle.fixed_complex.specs.declared.Cx.{Cx}
use Rattle.fixed_complex.specs.declared.Sample.{Sample}
use Rattle.fixed_complex.specs.Samples.{pair_at}
use Rattle.fixed_complex.specs.PairLists.{by_256}
use Rattle.fixed_complex.specs.Pairs.{rounded_pair}
use Rattle.butterfly64.specs.StagedSums.{down_at}

-- what is received in a bin: the staged sum `down` of the pairs times 256, over 256 and rounded half up
abbrev pub received_at : (ℕ → Cx) → ℕ → Cx
received_at pairs bin = rounded_pair 8 (down_at 6 (by_256 pairs) bin)

-- the 64 received carriers
abbrev pub received : List Sample → List Cx
received samples = map (received_at (pair_at samples)) (range_with_len 0 64)
