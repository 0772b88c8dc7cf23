-- Lists that a loop fills, place by place.
use Rattle.std.proofs.Common.{◌≡◌, ◌≢◌, ℕ, ◌+◌, ◌<◌, ◌≤◌, List, length, map, set, get_or, sym, ◌∙◌, arith, get_or-set_same, get_or-set_other, length-set, below_more}
use Rattle.std.specs.List.{range_with_len}
use Rattle.std.proofs.lemmas.List.{ext_get_or}
use Rattle.std.proofs.lemmas.List.FromFn.{length-map-range_with_len, get_or-map-range_with_len}

-- the first n entries of a list of so many are those of a function
pub record IsFilled {X : Type 0} (d : X) (f : ℕ → X) (size n : ℕ) (xs : List X) : Type 0 where
  pub long : length xs ≡ size
  pub each : (k : ℕ) → k < n → get_or xs k d ≡ f k

-- before the first
pub none_filled : {X : Type 0} (d : X) (f : ℕ → X) (size : ℕ) (xs : List X) → length xs ≡ size → IsFilled d f size 0 xs
none_filled d f size xs long = record { long = long; each = λ k lt. absurd (omega arith) }

-- one more
pub one_more : {X : Type 0} (d : X) (f : ℕ → X) (size n : ℕ) (xs : List X) (x : X) → IsFilled d f size n xs → n < size → x ≡ f n → IsFilled d f size (n + 1) (set xs n x)
one_more d f size n xs x so_far lt here = record {
  long = length-set xs n x ∙ so_far.long;
  each =
      below_more _ _
      (λ k below. let other : k ≢ n = omega arith in get_or-set_other xs n k x d other ∙ so_far.each k below)
      (let inside : n < length xs = omega (arith, so_far.long) in get_or-set_same xs n x d inside ∙ here);
}

-- all of them
pub all_filled : {X : Type 0} (d : X) (f : ℕ → X) (size n : ℕ) (xs : List X) → IsFilled d f size n xs → size ≤ n → xs ≡ map f (range_with_len 0 size)
all_filled d f size n xs filled all =
    ext_get_or d xs (map f (range_with_len 0 size)) (filled.long ∙ sym (length-map-range_with_len f 0 size))
    (λ k lt. let below : k < size = omega (arith, filled.long) in filled.each k (omega arith) ∙ sym (get_or-map-range_with_len f 0 size k k d below (omega arith)))
