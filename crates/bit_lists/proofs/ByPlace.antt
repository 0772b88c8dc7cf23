-- Lists that are read place by place.
use Rattle.std.proofs.Common.{◌≡◌, ℕ, zero, suc, ◌+◌, ◌<◌, ◌≤◌, List, [], ◌∷◌, ◌++◌, length, map, take, replicate, slice_index, refl, sym, ap, ◌∙◌, arith}
use Rattle.std.specs.List.{range_with_len}
use Rattle.std.proofs.lemmas.List.{get_or-take, length-take-le, map-id}
use Rattle.std.proofs.lemmas.List.Elements.{All-replicate}
use Rattle.std.proofs.lemmas.List.FromFn.{fill_by_all, map-range_with_len_more}
use Rattle.bit_lists.specs.Bits.{AreBits, IsBit}

-- so many places from one on, and one more
pub one_place_more : (a n j : ℕ) → a + n ≡ j → range_with_len a (n + 1) ≡ range_with_len a n ++ j ∷ []
one_place_more a n j at =
    sym (map-id (range_with_len a (n + 1))) ∙ map-range_with_len_more (λ k. k) a n j at
    ∙ ap (λ places. places ++ j ∷ []) (map-id (range_with_len a n))

-- the front of a list whose places are known
pub take-by_place : (f : ℕ → ℕ) (n : ℕ) (xs : List ℕ) → n ≤ length xs → ((m : ℕ) → m < n → slice_index xs m ≡ f m) → take n xs ≡ map f (range_with_len 0 n)
take-by_place f n xs within read =
    fill_by_all f (take n xs) n 0 (length-take-le n xs within) (λ m below. get_or-take n xs m 0 below ∙ read m below)

-- two functions that agree on a range give one list
agree_from : {A : Type 0} (f g : ℕ → A) (a n : ℕ) → ((k : ℕ) → a ≤ k → k < a + n → f k ≡ g k) → map f (range_with_len a n) ≡ map g (range_with_len a n)
agree_from f g a zero same = refl
agree_from f g a (suc n) same =
    ap (λ first. first ∷ map f (range_with_len (a + 1) n)) (same a (omega arith) (omega arith))
    ∙ ap (λ rest. g a ∷ rest) (agree_from f g (a + 1) n (λ k le lt. same k (omega arith) (omega arith)))

pub map-agree : {A : Type 0} (f g : ℕ → A) (n : ℕ) → ((k : ℕ) → k < n → f k ≡ g k) → map f (range_with_len 0 n) ≡ map g (range_with_len 0 n)
map-agree f g n same = agree_from f g 0 n (λ k _ below. same k (omega arith))

-- a list of zeros at any place, and its zeros are bits
pub slice_index-zeros : (n m : ℕ) → slice_index (replicate n 0) m ≡ 0
slice_index-zeros zero m = refl
slice_index-zeros (suc n) zero = refl
slice_index-zeros (suc n) (suc m) = slice_index-zeros n m

pub AreBits-zeros : (n : ℕ) → AreBits (replicate n 0)
AreBits-zeros n = All-replicate IsBit n 0 (omega arith)
