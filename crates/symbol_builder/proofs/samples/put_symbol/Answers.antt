use Rattle.std.proofs.Common.{◌≡◌, ℕ, ◌+◌, ◌-◌, ◌%◌, ◌<◌, List, ◌++◌, length, take, drop, get_or, length-append, ap, sym, ◌∙◌, inl, inr, pos, arith}
use Rattle.std.proofs.lemmas.Bool.{cases_lt}
use Rattle.std.proofs.lemmas.List.{ext_get_or, get_or-append_right, get_or-drop, get_or-take, get_or_append_left}
use Rattle.std.proofs.lemmas.List.FromFn.{get_or-map-range_with_len, length-map-range_with_len}
use Rattle.fixed_complex.specs.declared.Cx.{Cx}
use Rattle.fixed_complex.specs.declared.Sample.{Sample}
use Rattle.fixed_complex.specs.PairLists.{entry}
use Rattle.fixed_complex.proofs.PairLists.{entry-map}
use Rattle.fixed_complex.proofs.PairSizes.{within_wider}
use Rattle.fixed_complex.specs.Samples.{sample_at}
use Rattle.plain_waves.proofs.Bodies.{IsBody, exact-at, is_body, near-at, within-at}
use Rattle.symbol_builder.specs.Carriers.{symbol_bin, symbol_times}
use Rattle.symbol_builder.proofs.SymbolSizes.{symbol_fits}
use Rattle.symbol_builder.proofs.samples.put_symbol.Goals as goal

abbrev silence : Sample
silence = record { i = pos 0; q = pos 0 }

abbrev sample_before : List Sample → ℕ → Sample
sample_before body time = sample_at body ((time + 48) % 64)

-- a body's end and the body are a symbol
symbol_is : (body front : List Sample) → length body ≡ 64 → length front ≡ 16 → front ≡ take 16 (drop 48 body) → front ++ body ≡ symbol_times (sample_at body)
symbol_is body front long short is =
    let all : length (front ++ body) ≡ 80 = omega (arith, length-append front body) in
    ext_get_or silence (front ++ body) (symbol_times (sample_at body)) (all ∙ sym (length-map-range_with_len (sample_before body) 0 80))
    (λ k lt.
    let inside : k < 80 = omega (arith, all) in
    let there = get_or-map-range_with_len (sample_before body) 0 80 k k silence inside (omega arith) in
    elim (cases_lt k 16) [
      | inl early ↦
          (let place : 48 + k ≡ (k + 48) % 64 = omega arith in
          get_or_append_left front body silence k (omega (arith, short))
          ∙ ap (λ xs. get_or xs k silence) is
          ∙ get_or-take 16 (drop 48 body) k silence early
          ∙ get_or-drop 48 body k silence
          ∙ ap (sample_at body) place
          ∙ sym there)
      | inr late ↦
          (let place : k - 16 ≡ (k + 48) % 64 = omega arith in
          get_or-append_right front body 16 k silence short late
          ∙ ap (sample_at body) place
          ∙ sym there)
    ])

pub put_sent_samples-requires-clause-within : goal.put_sent_samples-requires-clause-within
put_sent_samples-requires-clause-within c = record { each = λ bin lt. within_wider 700 954 (entry c.put_carriers.new.carriers bin) (omega arith) (c.put_carriers.ensures.within.each bin lt) }

pub put_sent_samples-requires-clause-fits : goal.put_sent_samples-requires-clause-fits
put_sent_samples-requires-clause-fits c = rw c.put_carriers.ensures.carriers (symbol_fits c.args.points.now c.args.n c.requires)

-- what was put is a body with its end before it
record IsPut (points : List Cx) (n : ℕ) (body samples : List Sample) : Type 0 where
  is : samples ≡ symbol_times (sample_at body)
  bins : IsBody (symbol_bin points n) body

put : (c : goal.After-samples-2-1) → IsPut c.args.points.now c.args.n c.put_sent_samples.new.samples (c.copy_from_slice.new.self ++ c.put_sent_samples.new.samples)
put c =
    let bins = symbol_bin c.args.points.now c.args.n in
    let body = c.put_sent_samples.new.samples in
    let long : length body ≡ 64 = omega arith in
    let behind : length body - 48 ≡ 16 = omega arith in
    record {
      is = symbol_is body c.copy_from_slice.new.self long (c.copy_from_slice.ensures.len ∙ c.split_at_mut-prefix.ensures.front_len) (c.copy_from_slice.ensures.after ∙ ap (λ n. take n (drop 48 body)) behind);
      bins = is_body c.put_carriers.new.carriers bins body (λ bin lt. ap (λ xs. entry xs bin) c.put_carriers.ensures.carriers ∙ entry-map bins 64 bin lt) c.put_sent_samples.ensures.samples c.put_sent_samples.ensures.near c.put_sent_samples.ensures.within;
    }

pub returns : goal.returns
returns c =
    let bins = symbol_bin c.args.points.now c.args.n in
    let body = c.put_sent_samples.new.samples in
    let done = put c in
    record {
      samples = done.is ∙ exact-at bins body (λ time. (time + 48) % 64) 80 done.bins (λ time. omega arith);
      near = rw done.is (near-at bins body (λ time. (time + 48) % 64) 80 done.bins (λ time. omega arith));
      within = rw done.is (within-at bins body (λ time. (time + 48) % 64) 80 done.bins (λ time. omega arith));
    }
