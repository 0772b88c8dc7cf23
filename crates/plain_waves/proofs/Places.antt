-- What holds of lists place by place, and of functions on the first 64 places.
use Rattle.std.proofs.Common.{◌≡◌, ℕ, ◌-◌, ◌*◌, ◌<◌, List, length, map, ◌++◌, ap, refl, sym, ◌∙◌, arith, inl, inr, length-append, pos}
use Rattle.std.specs.List.{range_with_len}
use Rattle.std.proofs.Math.ListN.{get_or-append}
use Rattle.std.proofs.lemmas.Bool.{cases_lt}
use Rattle.std.proofs.lemmas.List.{get_or-append_right}
use Rattle.std.proofs.lemmas.List.FromFn.{length-map-range_with_len}
use Rattle.fixed_complex.specs.declared.Cx.{Cx}
use Rattle.fixed_complex.specs.declared.Sample.{Sample}
use Rattle.fixed_complex.specs.Pairs.{times, zero_pair, multiple}
use Rattle.fixed_complex.specs.Turns.{turn_at}
use Rattle.butterfly64.proofs.Halves.{up_at-local}
use Rattle.fixed_complex.specs.Samples.{SamplesWithin, IsSampleWithin}
use Rattle.plain_waves.specs.Bodies.{plain_body, sample_of, sent_body}
use Rattle.plain_waves.specs.Nearness.{AreNearPlain, IsNearPlain}
use Rattle.fixed_complex.proofs.Sums.{sum-local}
use Rattle.fixed_complex.proofs.PairLists.{entry-map}
use Rattle.fixed_complex.proofs.Samples.{sample-map}

-- ---- bodies of what is the same in all bins
pub plain_body-local : (x y : ℕ → Cx) → ((bin : ℕ) → bin < 64 → x bin ≡ y bin) → (n : ℕ) → plain_body x n ≡ plain_body y n
plain_body-local x y same n =
    sum-local 64 (λ c. times (x c) (turn_at (c * n))) (λ c. times (y c) (turn_at (c * n))) (λ c lt. ap (λ p. times p (turn_at (c * n))) (same c lt))

pub sent_body-local : (x y : ℕ → Cx) → ((bin : ℕ) → bin < 64 → x bin ≡ y bin) → (n : ℕ) → sent_body x n ≡ sent_body y n
sent_body-local x y same n = ap (sample_of 9) (up_at-local 6 _ _ (λ c lt. ap (multiple (pos 256)) (same c lt)) n)

-- ---- samples near plain ones, and samples of a bound, by place
pub near-map : (bound : ℕ) (f : ℕ → Sample) (g : ℕ → Cx) (size : ℕ) → ((n : ℕ) → n < size → IsNearPlain bound (f n) (g n)) → AreNearPlain bound (map f (range_with_len 0 size)) (map g (range_with_len 0 size))
near-map bound f g size near = record {
  long = length-map-range_with_len f 0 size ∙ sym (length-map-range_with_len g 0 size);
  each = λ n lt. let below : n < size = omega (arith, length-map-range_with_len f 0 size) in rw (sample-map f size n below, entry-map g size n below) (near n below);
}

pub within-map : (bound : ℕ) (f : ℕ → Sample) (size : ℕ) → ((n : ℕ) → n < size → IsSampleWithin bound (f n)) → SamplesWithin bound (map f (range_with_len 0 size))
within-map bound f size within = record {
  each = λ n lt. let below : n < size = omega (arith, length-map-range_with_len f 0 size) in rw (sample-map f size n below) (within n below);
}

pub near-append : (bound : ℕ) (xs ys : List Sample) (us vs : List Cx) → AreNearPlain bound xs us → AreNearPlain bound ys vs → AreNearPlain bound (xs ++ ys) (us ++ vs)
near-append bound xs ys us vs first second = record {
  long = omega (arith, length-append xs ys, length-append us vs, first.long, second.long);
  each = λ n lt.
      elim (cases_lt n (length xs)) [
        | inl here ↦
            let there : n < length us = omega (arith, first.long) in
            rw (get_or-append xs ys _ n here, get_or-append us vs zero_pair n there) (first.each n here)
        | inr past ↦
            let rest : n - length xs < length ys = omega (arith, length-append xs ys) in
            rw (get_or-append_right xs ys (length xs) n _ refl past, get_or-append_right us vs (length xs) n zero_pair (sym first.long) past) (second.each (n - length xs) rest)
      ];
}

pub within-append : (bound : ℕ) (xs ys : List Sample) → SamplesWithin bound xs → SamplesWithin bound ys → SamplesWithin bound (xs ++ ys)
within-append bound xs ys first second = record {
  each = λ n lt.
      elim (cases_lt n (length xs)) [
        | inl here ↦ rw (get_or-append xs ys _ n here) (first.each n here)
        | inr past ↦
            let rest : n - length xs < length ys = omega (arith, length-append xs ys) in
            rw (get_or-append_right xs ys (length xs) n _ refl past) (second.each (n - length xs) rest)
      ];
}
