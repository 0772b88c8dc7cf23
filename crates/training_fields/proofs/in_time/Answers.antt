use Rattle.std.proofs.Common.{◌≡◌, ℕ, ◌+◌, ◌-◌, ◌%◌, ◌<◌, ◌≢◌, List, length, set, ◌++◌, ap, refl, sym, ◌∙◌, arith, inl, inr, below_more, get_or-set_same, get_or-set_other, length-set, pos}
use Rattle.std.proofs.Math.ListN.{get_or-append}
use Rattle.std.proofs.lemmas.Bool.{cases_lt}
use Rattle.std.proofs.lemmas.List.{ext_get_or, get_or-append_right}
use Rattle.fixed_complex.specs.declared.Sample.{Sample}
use Rattle.fixed_complex.specs.Samples.{sample_at}
use Rattle.training_fields.specs.Training.{long_times, short_times}
use Rattle.fixed_complex.proofs.Samples.{sample-map}
use Rattle.training_fields.proofs.in_time.Goals as goal

-- a sample written, and the others
here : (xs : List Sample) (n : ℕ) (x : Sample) → n < length xs → sample_at (set xs n x) n ≡ x
here xs n x lt = get_or-set_same xs n x _ lt

elsewhere : (xs : List Sample) (n k : ℕ) (x : Sample) → k ≢ n → sample_at (set xs n x) k ≡ sample_at xs k
elsewhere xs n k x other = get_or-set_other xs n k x _ other

pub loop-time-preserved : goal.loop-time-preserved
loop-time-preserved c =
    let xs = c.loop-time.samples in
    let t = c.loop-time.time in
    let before = c.loop-time.invariant in
    let a = sample_at c.args.short.now (t % 64) in
    let b = sample_at c.args.long.now ((t + 32) % 64) in
    let long : length (set xs t a) ≡ 320 = length-set xs t a ∙ before.long in
    let apart : t ≢ 160 + t = omega arith in
    record {
      long = length-set (set xs t a) (160 + t) b ∙ long;
      first =
          below_more _ _
          (λ k lt. elsewhere (set xs t a) (160 + t) k b (omega arith) ∙ elsewhere xs t k a (omega arith) ∙ before.first k lt)
          (elsewhere (set xs t a) (160 + t) t b apart ∙ here xs t a (omega (arith, before.long)));
      second =
          below_more _ _
          (λ k lt. elsewhere (set xs t a) (160 + t) (160 + k) b (omega arith) ∙ elsewhere xs t (160 + k) a (omega arith) ∙ before.second k lt)
          (here (set xs t a) (160 + t) b (omega (arith, long)));
    }

-- 320 samples by their first and their last 160
halves_of : (xs : List Sample) (f g : ℕ → Sample) → length xs ≡ 320 → ((k : ℕ) → k < 160 → sample_at xs k ≡ f (k % 64)) → ((k : ℕ) → k < 160 → sample_at xs (160 + k) ≡ g ((k + 32) % 64)) → xs ≡ short_times f ++ long_times g
halves_of xs f g long first second =
    ext_get_or (record { i = pos 0; q = pos 0 }) xs (short_times f ++ long_times g) long
    (λ k lt. elim (cases_lt k 160) [
      | inl below ↦ first k below ∙ sym (get_or-append (short_times f) (long_times g) _ k below ∙ sample-map (λ time. f (time % 64)) 160 k below)
      | inr past ↦
          let rest : k - 160 < 160 = omega arith in
          let e : 160 + (k - 160) ≡ k = omega arith in
          ap (sample_at xs) (sym e) ∙ second (k - 160) rest
          ∙ sym (get_or-append_right (short_times f) (long_times g) 160 k _ refl past ∙ sample-map (λ time. g ((time + 32) % 64)) 160 (k - 160) rest)
    ])

pub returns : goal.returns
returns c =
    let all : c.loop-time.time ≡ 160 = omega arith in
    halves_of c.loop-time.samples (sample_at c.args.short.now) (sample_at c.args.long.now) c.loop-time.invariant.long
    (λ k lt. c.loop-time.invariant.first k (omega arith)) (λ k lt. c.loop-time.invariant.second k (omega arith))
