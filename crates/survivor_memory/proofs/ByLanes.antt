-- Vectors of 64 bytes, lane by lane.
use Rattle.std.proofs.Common.{◌≡◌, ℕ, ◌+◌, ◌-◌, ◌*◌, ◌/◌, ◌%◌, ◌^◌, ◌<◌, ◌≤◌, List, [], ◌∷◌, ◌++◌, Bool, true, false, cond, ltb, eqb, map, min, length, get_or, replicate, refl, ap, ◌∙◌, inl, inr, zero-add, add_comm, arith, Fits, w8}
use Rattle.std.specs.Int.{bit_at}
use lib.Lanes.{Each1, zip2, sel_l, mask_l, pick_l, top}
use Rattle.std.specs.List.{flat_map, range_with_len}
use Rattle.std.proofs.lemmas.Bool.{ltb-true, ltb-false, ne_eqb, agree_below_at, eqb-true, cases_eq}
use Rattle.std.proofs.lemmas.List.{length-map, get_or-map, get_or_append_left, get_or-append-add}
use Rattle.std.proofs.lemmas.Simd.{Each1-get_or, get_or-replicate, tops_compared, length-zip2, length-sel_l, get_or-sel_l, get_or-zip2, mask_l-mod, bit_mask_l}

-- a lane that a comparison chooses
pub chosen_lane : (t : ℕ → ℕ → Bool) (a b xs ys : List ℕ) (s : ℕ) → length a ≡ 64 → length b ≡ 64 → length xs ≡ 64 → length ys ≡ 64 → s < 64
    → get_or (sel_l (map (top 7) (zip2 (λ x y. cond (t x y) 255 0) a b)) xs ys) s 0 ≡ cond (t (get_or a s 0) (get_or b s 0)) (get_or xs s 0) (get_or ys s 0)
chosen_lane t a b xs ys s la lb lx ly h =
    let long = length-zip2 t a b (omega arith) in
    ap (λ ms. get_or (sel_l ms xs ys) s 0) (tops_compared w8 t a b)
    ∙ get_or-sel_l (zip2 t a b) xs ys s 0 (omega arith) (omega arith) (omega arith)
    ∙ ap (λ m. cond m (get_or xs s 0) (get_or ys s 0)) (get_or-zip2 t a b s 0 0 false (omega arith) (omega arith))

pub length_chosen : (t : ℕ → ℕ → Bool) (a b xs ys : List ℕ) → length a ≡ 64 → length b ≡ 64 → length xs ≡ 64 → length ys ≡ 64
    → length (sel_l (map (top 7) (zip2 (λ x y. cond (t x y) 255 0) a b)) xs ys) ≡ 64
length_chosen t a b xs ys la lb lx ly =
    let long = length-zip2 t a b (omega arith) in
    ap (λ ms. length (sel_l ms xs ys)) (tops_compared w8 t a b) ∙ omega (arith, length-sel_l (zip2 t a b) xs ys (omega arith) (omega arith))

-- the lesser of two lanes
pub lesser_lane : (a b : List ℕ) (s : ℕ) → length a ≡ 64 → length b ≡ 64 → s < 64
    → get_or (sel_l (map (top 7) (zip2 (λ x y. cond (ltb x y) 255 0) a b)) a b) s 0 ≡ min (get_or a s 0) (get_or b s 0)
lesser_lane a b s la lb h = chosen_lane ltb a b a b s la lb la lb h ∙ lesser_is (get_or a s 0) (get_or b s 0)
  where
    lesser_is : (x y : ℕ) → cond (ltb x y) x y ≡ min x y
    lesser_is x y = grind (arith, ltb-true, ltb-false)

-- the bit of a lane in the mask of a comparison
pub mask_bit : (t : ℕ → ℕ → Bool) (a b : List ℕ) (s : ℕ) → length a ≡ 64 → length b ≡ 64 → s < 64
    → bit_at (mask_l (map (top 7) (zip2 (λ x y. cond (t x y) 255 0) a b)) % 18446744073709551616) s ≡ cond (t (get_or a s 0) (get_or b s 0)) 1 0
mask_bit t a b s la lb h =
    let long = length-zip2 t a b (omega arith) in
    ap (λ n. n / 2 ^ s % 2) (ap (λ ms. mask_l ms % 2 ^ 64) (tops_compared w8 t a b) ∙ mask_l-mod (zip2 t a b) 64 (omega arith))
    ∙ bit_mask_l (zip2 t a b) s
    ∙ ap (λ m. cond m 1 0) (get_or-zip2 t a b s 0 0 false (omega arith) (omega arith))

-- the sum of two lanes, which wraps
pub sum_lane : (a b : List ℕ) (s : ℕ) → length a ≡ 64 → length b ≡ 64 → s < 64
    → get_or (zip2 (λ x y. (x + y) % 256) a b) s 0 ≡ (get_or a s 0 + get_or b s 0) % 256
sum_lane a b s la lb h = get_or-zip2 (λ x y. (x + y) % 256) a b s 0 0 0 (omega arith) (omega arith)

-- the difference of two lanes
pub difference_lane : (a b : List ℕ) (s : ℕ) → length a ≡ 64 → length b ≡ 64 → s < 64 → get_or a s 0 < 256 → get_or b s 0 ≤ get_or a s 0
    → get_or (zip2 (λ x y. (x + (256 - y)) % 256) a b) s 0 ≡ get_or a s 0 - get_or b s 0
difference_lane a b s la lb h small less = get_or-zip2 (λ x y. (x + (256 - y)) % 256) a b s 0 0 0 (omega arith) (omega arith) ∙ omega arith

-- the sum of two lanes, which is held at 255
pub held_sum_lane : (a b : List ℕ) (s : ℕ) → length a ≡ 64 → length b ≡ 64 → s < 64 → get_or a s 0 < 256 → get_or b s 0 < 256
    → get_or (zip2 (λ x y. (x + y) % 256) a (sel_l (map (top 7) (zip2 (λ x y. cond (ltb x y) 255 0) b (map (λ x. 255 - x) a))) b (map (λ x. 255 - x) a))) s 0
    ≡ min 255 (get_or a s 0 + get_or b s 0)
held_sum_lane a b s la lb h small_a small_b =
    let left = map (λ x. 255 - x) a in
    let left_long : length left ≡ 64 = omega (arith, length-map a (λ x. 255 - x)) in
    let room : get_or left s 0 ≡ 255 - get_or a s 0 = get_or-map (λ x. 255 - x) a s 0 0 (omega arith) in
    sum_lane a (sel_l (map (top 7) (zip2 (λ x y. cond (ltb x y) 255 0) b left)) b left) s la (length_chosen ltb b left b left lb left_long lb left_long) h
    ∙ rw (lesser_lane b left s lb left_long h, room) (omega arith)

-- a lane of a vector of bytes
pub byte_lane : (a : List ℕ) (s : ℕ) → Each1 (Fits w8) a → length a ≡ 64 → s < 64 → get_or a s 0 < 256
byte_lane a s fits long h = (Each1-get_or (Fits w8) a s 0 (omega arith) fits).fits

-- a lane that is not 255, less a number
pub lowered_lane_below : (a : List ℕ) (by s : ℕ) → length a ≡ 64 → s < 64 → get_or a s 0 < 255 → by ≤ get_or a s 0
    → get_or (sel_l (map (top 7) (zip2 (λ x y. cond (eqb x y) 255 0) a (replicate 64 255))) a (zip2 (λ x y. (x + (256 - y)) % 256) a (replicate 64 by))) s 0 ≡ get_or a s 0 - by
lowered_lane_below a by s la h below less =
    let same_by : get_or (replicate 64 by) s 0 ≡ by = get_or-replicate 64 s by 0 h in
    let long = length-zip2 (λ x y. (x + (256 - y)) % 256) a (replicate 64 by) la in
    let test : eqb (get_or a s 0) 255 ≡ false = ne_eqb _ _ (omega arith) in
    chosen_lane eqb a (replicate 64 255) a (zip2 (λ x y. (x + (256 - y)) % 256) a (replicate 64 by)) s la refl la (long ∙ la) h
    ∙ rw (get_or-replicate {A = ℕ} 64 s 255 0 h, test) (difference_lane a (replicate 64 by) s la refl h (omega arith) (omega arith) ∙ rw same_by)

-- a lane that is 255
pub lowered_lane_full : (a : List ℕ) (by s : ℕ) → length a ≡ 64 → s < 64 → get_or a s 0 ≡ 255
    → get_or (sel_l (map (top 7) (zip2 (λ x y. cond (eqb x y) 255 0) a (replicate 64 255))) a (zip2 (λ x y. (x + (256 - y)) % 256) a (replicate 64 by))) s 0 ≡ 255
lowered_lane_full a by s la h full =
    let long = length-zip2 (λ x y. (x + (256 - y)) % 256) a (replicate 64 by) la in
    chosen_lane eqb a (replicate 64 255) a (zip2 (λ x y. (x + (256 - y)) % 256) a (replicate 64 by)) s la refl la (long ∙ la) h
    ∙ rw (get_or-replicate {A = ℕ} 64 s 255 0 h, full)

-- the places of two halves, interleaved
abbrev pub interleaved : ℕ → List ℕ
interleaved first = flat_map (λ k. k ∷ (64 + k) ∷ []) (range_with_len first 32)

-- a lane of a vector interleaved with itself
interleaved_lane : (a ks : List ℕ) (first s : ℕ) → length a ≡ 64 → length ks ≡ 64 → s < 64 → first + s / 2 < 64 → get_or ks s 0 ≡ first + s / 2 + 64 * (s % 2) → get_or (pick_l 0 (a ++ a) ks) s 0 ≡ get_or a (first + s / 2) 0
interleaved_lane a ks first s la lks h below at =
    get_or-map (λ k. get_or (a ++ a) k 0) ks s 0 0 (omega arith)
    ∙ elim (cases_eq (s % 2) 0) [
      | inl even ↦ let place : get_or ks s 0 ≡ first + s / 2 = omega arith in rw place (get_or_append_left a a 0 (first + s / 2) (omega arith))
      | inr odd ↦ let place : get_or ks s 0 ≡ length a + (first + s / 2) = omega arith in rw place (get_or-append-add a a (first + s / 2) 0)
    ]

pub first_half_lane : (a : List ℕ) (s : ℕ) → length a ≡ 64 → s < 64 → get_or (pick_l 0 (a ++ a) (interleaved 0)) s 0 ≡ get_or a (s / 2) 0
first_half_lane a s la h =
    let at = eqb-true _ _ (agree_below_at (λ s. eqb (get_or (interleaved 0) s 0) (0 + s / 2 + 64 * (s % 2))) (λ _. true) 64 s refl h) in
    rw zero-add at (interleaved_lane a (interleaved 0) 0 s la refl h (omega arith) at)

pub second_half_lane : (a : List ℕ) (s : ℕ) → length a ≡ 64 → s < 64 → get_or (pick_l 0 (a ++ a) (interleaved 32)) s 0 ≡ get_or a (s / 2 + 32) 0
second_half_lane a s la h =
    let at = eqb-true _ _ (agree_below_at (λ s. eqb (get_or (interleaved 32) s 0) (32 + s / 2 + 64 * (s % 2))) (λ _. true) 64 s refl h) in
    rw (add_comm 32) at (interleaved_lane a (interleaved 32) 32 s la refl h (omega arith) at)
