-- A symbol that is sent is near the plain one, and small.
use Rattle.std.proofs.Common.{ℕ, ◌+◌, ◌%◌, ◌<◌, List, subst, arith}
use Rattle.std.proofs.lemmas.List.FromFn.{length-map-range_with_len}
use Rattle.fixed_complex.specs.declared.Cx.{Cx}
use Rattle.fixed_complex.specs.PairLists.{PairsWithin, entry}
use Rattle.fixed_complex.proofs.PairSizes.{within_wider}
use Rattle.plain_waves.specs.Bodies.{all_times, sent_body}
use Rattle.fixed_complex.specs.Samples.{SamplesWithin}
use Rattle.plain_waves.specs.Nearness.{AreNearPlain}
use Rattle.plain_waves.proofs.Bodies.{IsBody, exact-at, near-at, within-at}
use Rattle.fixed_complex.proofs.PairLists.{entry-map}
use Rattle.symbol_builder.specs.Carriers.{plain_symbol, symbol_bin, symbol_bins, sent_symbol}
use Rattle.symbol_builder.proofs.SymbolSizes.{symbol_fits, symbol_within}
use Rattle.plain_waves.proofs.Sent.{is_sent_body}

bins_within : (points : List Cx) (n : ℕ) → PairsWithin 700 points → PairsWithin 954 (symbol_bins points n)
bins_within points n within = record {
  each = λ bin lt.
      let below : bin < 64 = omega (arith, length-map-range_with_len (symbol_bin points n) 0 64) in
      rw (entry-map (symbol_bin points n) 64 bin below) (within_wider 700 954 (symbol_bin points n bin) (omega arith) (symbol_within points n within bin below));
}

body_of : (points : List Cx) (n : ℕ) → PairsWithin 700 points → IsBody (symbol_bin points n) (all_times (sent_body (entry (symbol_bins points n))))
body_of points n within =
    is_sent_body (symbol_bins points n) (symbol_bin points n) (bins_within points n within) (symbol_fits points n within) (λ bin lt. entry-map (symbol_bin points n) 64 bin lt)

pub near_symbol : (points : List Cx) (n : ℕ) → PairsWithin 700 points → AreNearPlain 1 (sent_symbol points n) (plain_symbol points n)
near_symbol points n within =
    let body = body_of points n within in
    subst (λ samples. AreNearPlain 1 samples (plain_symbol points n))
    (exact-at (symbol_bin points n) _ (λ time. (time + 48) % 64) 80 body (λ time. omega arith))
    (near-at (symbol_bin points n) _ (λ time. (time + 48) % 64) 80 body (λ time. omega arith))

pub small_symbol : (points : List Cx) (n : ℕ) → PairsWithin 700 points → SamplesWithin 25057 (sent_symbol points n)
small_symbol points n within =
    let body = body_of points n within in
    subst (SamplesWithin 25057)
    (exact-at (symbol_bin points n) _ (λ time. (time + 48) % 64) 80 body (λ time. omega arith))
    (within-at (symbol_bin points n) _ (λ time. (time + 48) % 64) 80 body (λ time. omega arith))
