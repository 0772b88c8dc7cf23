-- Lists of decisions that are a kept code.
use Rattle.std.proofs.Common.{◌≡◌, ℕ, zero, suc, ◌+◌, ◌*◌, ◌<◌, ◌≤◌, true, not, cond, List, ◌++◌, take, drop, slice_index, refl, ap, sym, ◌∙◌, arith}
use Rattle.std.specs.Prelude.{◌==◌}
use Rattle.std.specs.List.{flat_map, range_with_len}
use Rattle.std.proofs.Math.Seq.{take-add}
use Rattle.std.proofs.lemmas.Bool.{eq-eqb}
use Rattle.std.proofs.lemmas.List.{drop-drop, get_or-take}
use Rattle.kept_weights.specs.Weights.{distance_over}
use Rattle.kept_weights.proofs.Apart.{distance_over-by_places}
use Rattle.kept_weights.proofs.Sums.{sum_below}

-- ---- pieces joined
pub same_pieces : (f g : ℕ → List ℕ) (from n : ℕ) → ((m : ℕ) → from ≤ m → m < from + n → f m ≡ g m) → flat_map f (range_with_len from n) ≡ flat_map g (range_with_len from n)
same_pieces f g from zero same = refl
same_pieces f g from (suc n) same =
    ap (λ first. first ++ flat_map f (range_with_len (from + 1) n)) (same from (omega arith) (omega arith))
    ∙ ap (λ rest. g from ++ rest) (same_pieces f g (from + 1) n (λ m least below. same m (omega arith) (omega arith)))

pub pieces_joined : (size : ℕ) (xs : List ℕ) (from n : ℕ) → flat_map (λ m. take size (drop (m * size) xs)) (range_with_len from n) ≡ take (n * size) (drop (from * size) xs)
pieces_joined size xs from zero = let none : 0 * size ≡ 0 = omega arith in rw none refl
pieces_joined size xs from (suc n) =
    let next : from * size + size ≡ (from + 1) * size = omega arith in
    let more : suc n * size ≡ size + n * size = omega arith in
    let behind : drop size (drop (from * size) xs) ≡ drop ((from + 1) * size) xs = drop-drop size (from * size) xs ∙ ap (λ k. drop k xs) next in
    ap (λ rest. take size (drop (from * size) xs) ++ rest) (pieces_joined size xs (from + 1) n ∙ ap (take (n * size)) (sym behind))
    ∙ sym (take-add size (n * size) (drop (from * size) xs))
    ∙ ap (λ k. take k (drop (from * size) xs)) (sym more)

-- ---- no differences
none_differ : (a b : List ℕ) (n : ℕ) → ((k : ℕ) → k < n → slice_index a k ≡ slice_index b k) → sum_below (λ k. cond (not (slice_index a k == slice_index b k)) 1 0) n ≡ 0
none_differ a b zero same = refl
none_differ a b (suc n) same =
    let alike : (slice_index a n == slice_index b n) ≡ true = eq-eqb _ _ (same n (omega arith)) in
    let last : ◌≡◌ {A = ℕ} (cond (not (slice_index a n == slice_index b n)) 1 0) 0 = ap (λ t. cond {A = ℕ} (not t) 1 0) alike in
    omega (arith, last, none_differ a b n (λ k below. same k (omega arith)))

pub no_distance : (a : List ℕ) (count long : ℕ) → count ≤ long → distance_over count a (take long a) ≡ 0
no_distance a count long within = distance_over-by_places count a (take long a) ∙ none_differ a (take long a) count (λ k below. sym (get_or-take long a k 0 (omega arith)))

pub no_distance_of_same : (a : List ℕ) (count : ℕ) → distance_over count a a ≡ 0
no_distance_of_same a count = distance_over-by_places count a a ∙ none_differ a a count (λ k below. refl)
