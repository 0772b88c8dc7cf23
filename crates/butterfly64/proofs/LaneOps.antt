-- Operations on eight lanes: each lane of the result, from those of the operands.
use Rattle.std.proofs.Common.{length-append, ◌++◌, ◌&&◌, Bool, true, false, cond, eqb, ltb, inl, inr, ◌≡◌, ℕ, suc, ◌+◌, ◌-◌, ◌/◌, ◌^◌, ◌<◌, ◌≤◌, List, [], ◌∷◌, length, map, refl, ap, sym, ◌∙◌, arith, get_or, replicate, w64, to_z, of_z}
use Rattle.std.specs.Prelude.{ℤ, pos, negsuc, neg_ℤ, ◌+ℤ◌, ◌-ℤ◌, ◌*ℤ◌, unsigned_abs}
use Rattle.std.specs.Simd.Lanes.{zip2, Each2}
use Rattle.std.proofs.lemmas.Int.{ints, to_z-of_z, fits_signed_from_abs}
use Rattle.std.proofs.lemmas.List.{get_or-map, length-map, map-append, get_or_append_left, get_or-append_right}
use Rattle.std.proofs.lemmas.Bool.{cases_lt, eqb-true, ltb-true, agree_below_at, agree_below, and_parts}
use Rattle.std.proofs.lemmas.Simd.{get_or-zip2, length-zip2, get_or-replicate}
use borrow.Rule.Simd.Lanes.{Asks2, act2}
use borrow.Table.Row.{s_int}
use mir.Syntax.{add, sub, mul, shr, signed}
use lib.Signed.{shr_z}
use Rattle.integer_laws.specs.Floor.{floor_div}
use Rattle.integer_laws.proofs.Order.{unsigned_abs-product}
use Rattle.fixed_complex.specs.declared.Cx.{Cx}
use Rattle.fixed_complex.specs.Pairs.{times, conjugate, scaled_product}
use Rattle.std.proofs.Math.IntN.{neg_ℤ-neg_ℤ}
use Rattle.integer_laws.proofs.Products.{neg_ℤ-*ℤ}
use Rattle.fixed_complex.specs.Rounding.{half_up}
use Rattle.fixed_complex.specs.Numbers.{number_at, NumbersWithin}

-- a lane's bits
abbrev pub bits : ℤ → ℕ
bits = of_z w64

-- what is asked of each lane
pub each_lane : (P : ℕ → ℕ → Type 0) (xs ys : List ℕ) → ((l : ℕ) → l < length xs → P (get_or xs l 0) (get_or ys l 0)) → Each2 P xs ys
each_lane P [] ys h = tt
each_lane P (x ∷ xs) [] h = tt
each_lane P (x ∷ xs) (y ∷ ys) h = (h 0 (omega arith), each_lane P xs ys (λ l lt. h (suc l) (omega arith)))

-- the bits in a lane, and the number_at in it
pub bits_in : (xs : List ℤ) (l : ℕ) → length xs ≡ 8 → l < 8 → get_or (map bits xs) l 0 ≡ bits (number_at xs l)
bits_in xs l long h = get_or-map bits xs l (pos 0) 0 (omega arith)

pub number_in : (xs : List ℕ) (l : ℕ) → length xs ≡ 8 → l < 8 → number_at (map (to_z w64) xs) l ≡ to_z w64 (get_or xs l 0)
number_in xs l long h = get_or-map (to_z w64) xs l 0 (pos 0) (omega arith)

pub lane_of_two : (f : ℕ → ℕ → ℕ) (xs ys : List ℕ) (l : ℕ) → length xs ≡ 8 → length ys ≡ 8 → l < 8 → get_or (zip2 f xs ys) l 0 ≡ f (get_or xs l 0) (get_or ys l 0)
lane_of_two f xs ys l xs_long ys_long h = get_or-zip2 f xs ys l 0 0 0 (omega arith) (omega arith)

-- ---- one lane
held : (a : ℤ) → unsigned_abs a < 2 ^ 63 → to_z w64 (bits a) ≡ a
held a h = to_z-of_z w64 a (fits_signed_from_abs w64 a h)

sum_within : (a b : ℤ) → unsigned_abs a ≤ 2 ^ 62 - 1 → unsigned_abs b ≤ 2 ^ 62 - 1 → unsigned_abs (a +ℤ b) < 2 ^ 63
sum_within a b p q = omega (arith, ints)

difference_within : (a b : ℤ) → unsigned_abs a ≤ 2 ^ 62 - 1 → unsigned_abs b ≤ 2 ^ 62 - 1 → unsigned_abs (a -ℤ b) < 2 ^ 63
difference_within a b p q = omega (arith, ints)

product_within : (a b : ℤ) → unsigned_abs a ≤ 2 ^ 20 → unsigned_abs b ≤ 2 ^ 40 → unsigned_abs (a *ℤ b) < 2 ^ 63
product_within a b p q = omega (arith, unsigned_abs-product a b (2 ^ 20) (2 ^ 40) p q)

pub asks_add : (a b : ℤ) → unsigned_abs a ≤ 2 ^ 62 - 1 → unsigned_abs b ≤ 2 ^ 62 - 1 → Asks2 (add signed) (s_int w64) (s_int w64) (bits a) (bits b)
asks_add a b p q = rw (held a (omega arith), held b (omega arith)) (fits_signed_from_abs w64 (a +ℤ b) (sum_within a b p q))

pub asks_sub : (a b : ℤ) → unsigned_abs a ≤ 2 ^ 62 - 1 → unsigned_abs b ≤ 2 ^ 62 - 1 → Asks2 (sub signed) (s_int w64) (s_int w64) (bits a) (bits b)
asks_sub a b p q = rw (held a (omega arith), held b (omega arith)) (fits_signed_from_abs w64 (a -ℤ b) (difference_within a b p q))

pub asks_mul : (a b : ℤ) → unsigned_abs a ≤ 2 ^ 20 → unsigned_abs b ≤ 2 ^ 40 → Asks2 (mul signed) (s_int w64) (s_int w64) (bits a) (bits b)
asks_mul a b p q = rw (held a (omega arith), held b (omega arith)) (fits_signed_from_abs w64 (a *ℤ b) (product_within a b p q))

pub gives_add : (a b : ℤ) → unsigned_abs a ≤ 2 ^ 62 - 1 → unsigned_abs b ≤ 2 ^ 62 - 1 → to_z w64 (act2 (add signed) (s_int w64) (s_int w64) (s_int w64) (bits a) (bits b)) ≡ a +ℤ b
gives_add a b p q = rw (held a (omega arith), held b (omega arith)) (held (a +ℤ b) (sum_within a b p q))

pub gives_sub : (a b : ℤ) → unsigned_abs a ≤ 2 ^ 62 - 1 → unsigned_abs b ≤ 2 ^ 62 - 1 → to_z w64 (act2 (sub signed) (s_int w64) (s_int w64) (s_int w64) (bits a) (bits b)) ≡ a -ℤ b
gives_sub a b p q = rw (held a (omega arith), held b (omega arith)) (held (a -ℤ b) (difference_within a b p q))

pub gives_mul : (a b : ℤ) → unsigned_abs a ≤ 2 ^ 20 → unsigned_abs b ≤ 2 ^ 40 → to_z w64 (act2 (mul signed) (s_int w64) (s_int w64) (s_int w64) (bits a) (bits b)) ≡ a *ℤ b
gives_mul a b p q = rw (held a (omega arith), held b (omega arith)) (held (a *ℤ b) (product_within a b p q))

-- a shift to the right is a floor, no larger than what is shifted
shifted : (z : ℤ) → shr_z z 1048576 ≡ floor_div z 1048576
shifted (pos n) = refl
shifted (negsuc n) = refl

floor_within : (z : ℤ) → unsigned_abs (floor_div z 1048576) ≤ unsigned_abs z
floor_within (pos n) = omega arith
floor_within (negsuc n) = omega arith

pub gives_rounded : (a : ℤ) → unsigned_abs a ≤ 2 ^ 61 → to_z w64 (act2 (shr signed) (s_int w64) (s_int w64) (s_int w64) (act2 (add signed) (s_int w64) (s_int w64) (s_int w64) (bits a) 524288) 20) ≡ half_up 20 a
gives_rounded a p =
    let whole = a +ℤ pos 524288 in
    let within : unsigned_abs whole < 2 ^ 63 = omega (arith, ints) in
    rw (held a (omega arith), held whole within, shifted whole) (held (floor_div whole 1048576) (omega (arith, floor_within whole)))

-- ---- eight lanes
pub lanes_ask : (P : ℕ → ℕ → Type 0) (xs ys : List ℤ) → length xs ≡ 8 → length ys ≡ 8 → ((l : ℕ) → l < 8 → P (bits (number_at xs l)) (bits (number_at ys l))) → Each2 P (map bits xs) (map bits ys)
lanes_ask P xs ys xs_long ys_long h = each_lane P (map bits xs) (map bits ys) (λ l lt.
    let below : l < 8 = omega (arith, length-map xs bits) in
    rw (bits_in xs l xs_long below, bits_in ys l ys_long below) (h l below))

pub lanes_give : (f : ℕ → ℕ → ℕ) (xs ys : List ℤ) (l : ℕ) → length xs ≡ 8 → length ys ≡ 8 → l < 8 → number_at (map (to_z w64) (zip2 f (map bits xs) (map bits ys))) l ≡ to_z w64 (f (bits (number_at xs l)) (bits (number_at ys l)))
lanes_give f xs ys l xs_long ys_long h =
    let xs_bits : length (map bits xs) ≡ 8 = length-map xs bits ∙ xs_long in
    let ys_bits : length (map bits ys) ≡ 8 = length-map ys bits ∙ ys_long in
    number_in (zip2 f (map bits xs) (map bits ys)) l (length-zip2 f (map bits xs) (map bits ys) (xs_bits ∙ sym ys_bits) ∙ xs_bits) h
    ∙ ap (to_z w64) (lane_of_two f (map bits xs) (map bits ys) l xs_bits ys_bits h ∙ rw (bits_in xs l xs_long h, bits_in ys l ys_long h) refl)

-- what a rounding asks, and what it gives
pub rounded_ask : (xs : List ℤ) → length xs ≡ 8 → NumbersWithin (2 ^ 61) xs → Each2 (Asks2 (add signed) (s_int w64) (s_int w64)) (map bits xs) (replicate 8 524288)
rounded_ask xs long w = each_lane _ (map bits xs) (replicate 8 524288) (λ l lt.
    let below : l < 8 = omega (arith, length-map xs bits) in
    rw (bits_in xs l long below, get_or-replicate {A = ℕ} 8 l 524288 0 below) (asks_add (number_at xs l) (pos 524288) (omega (arith, w l)) (omega arith)))

pub rounded_give : (xs : List ℤ) (l : ℕ) → length xs ≡ 8 → NumbersWithin (2 ^ 61) xs → l < 8
    → number_at (map (to_z w64) (zip2 (act2 (shr signed) (s_int w64) (s_int w64) (s_int w64)) (zip2 (act2 (add signed) (s_int w64) (s_int w64) (s_int w64)) (map bits xs) (replicate 8 524288)) (replicate 8 20))) l ≡ half_up 20 (number_at xs l)
rounded_give xs l long w h =
    let shift = act2 (shr signed) (s_int w64) (s_int w64) (s_int w64) in
    let plus_half = act2 (add signed) (s_int w64) (s_int w64) (s_int w64) in
    let xs_bits : length (map bits xs) ≡ 8 = length-map xs bits ∙ long in
    let whole = zip2 plus_half (map bits xs) (replicate 8 524288) in
    let whole_long : length whole ≡ 8 = length-zip2 plus_half (map bits xs) (replicate 8 524288) xs_bits ∙ xs_bits in
    number_in (zip2 shift whole (replicate 8 20)) l (length-zip2 shift whole (replicate 8 20) whole_long ∙ whole_long) h
    ∙ ap (to_z w64) (lane_of_two shift whole (replicate 8 20) l whole_long refl h
    ∙ rw (lane_of_two plus_half (map bits xs) (replicate 8 524288) l xs_bits refl h, bits_in xs l long h, get_or-replicate {A = ℕ} 8 l 524288 0 h, get_or-replicate {A = ℕ} 8 l 20 0 h) refl)
    ∙ gives_rounded (number_at xs l) (w l)

-- as many lanes come out
pub lanes_long : (f : ℕ → ℕ → ℕ) (xs ys : List ℤ) → length xs ≡ 8 → length ys ≡ 8 → length (map (to_z w64) (zip2 f (map bits xs) (map bits ys))) ≡ 8
lanes_long f xs ys xs_long ys_long =
    length-map (zip2 f (map bits xs) (map bits ys)) (to_z w64)
    ∙ length-zip2 f (map bits xs) (map bits ys) (length-map xs bits ∙ xs_long ∙ sym (length-map ys bits ∙ ys_long))
    ∙ length-map xs bits ∙ xs_long

pub rounded_long : (f g : ℕ → ℕ → ℕ) (xs : List ℤ) → length xs ≡ 8 → length (map (to_z w64) (zip2 f (zip2 g (map bits xs) (replicate 8 524288)) (replicate 8 20))) ≡ 8
rounded_long f g xs long =
    let xs_bits : length (map bits xs) ≡ 8 = length-map xs bits ∙ long in
    let whole = zip2 g (map bits xs) (replicate 8 524288) in
    let whole_long : length whole ≡ 8 = length-zip2 g (map bits xs) (replicate 8 524288) xs_bits ∙ xs_bits in
    length-map (zip2 f whole (replicate 8 20)) (to_z w64) ∙ length-zip2 f whole (replicate 8 20) whole_long ∙ whole_long

-- a floor is about so many times smaller
floor_size : (z : ℤ) → unsigned_abs (floor_div z 1048576) ≤ unsigned_abs z / 1048576 + 1
floor_size (pos n) = omega arith
floor_size (negsuc n) = omega arith

pub half_up-within : (a : ℤ) → unsigned_abs a ≤ 2 ^ 61 → unsigned_abs (half_up 20 a) ≤ 2 ^ 42
half_up-within a p =
    let whole : unsigned_abs (a +ℤ pos 524288) ≤ 2 ^ 61 + 524288 = omega (arith, ints) in
    omega (arith, floor_size (a +ℤ pos 524288))

-- a rounded product of pairs, from its parts
pub scaled_of_parts : (w z : Cx) (p q r s d e : ℤ) → p ≡ w.re *ℤ z.re → q ≡ w.im *ℤ z.im → r ≡ w.re *ℤ z.im → s ≡ w.im *ℤ z.re → d ≡ half_up 20 (p -ℤ q) → e ≡ half_up 20 (r +ℤ s)
    → let pair : Cx = record { re = d; im = e } in pair ≡ scaled_product w z
unfolding scaled_product times
scaled_of_parts w z p q r s d e p_is q_is r_is s_is d_is e_is = rw (d_is, e_is, p_is, q_is, r_is, s_is)

-- ---- lanes in another order
-- the lanes at these places of two vectors
pub picked : (ks : List ℕ) (xs ys : List ℤ) → length ks ≡ 8 → length xs ≡ 8 → length ys ≡ 8 → NumbersWithin (2 ^ 62 - 1) xs → NumbersWithin (2 ^ 62 - 1) ys
    → (l k : ℕ) → l < 8 → get_or ks l 0 ≡ k → k < 16
    → number_at (map (λ k. to_z w64 (get_or (map bits xs ++ map bits ys) k 0)) ks) l ≡ number_at (xs ++ ys) k
picked ks xs ys ks_long xs_long ys_long xs_within ys_within l k h place below =
    let g = λ (k : ℕ). to_z w64 (get_or (map bits xs ++ map bits ys) k 0) in
    let long : length (xs ++ ys) ≡ 16 = omega (arith, length-append xs ys) in
    get_or-map g ks l 0 (pos 0) (omega arith)
    ∙ ap g place
    ∙ ap (λ (bs : List ℕ). to_z w64 (get_or bs k 0)) (sym (map-append bits xs ys))
    ∙ ap (to_z w64) (get_or-map bits (xs ++ ys) k (pos 0) 0 (omega arith))
    ∙ held (number_at (xs ++ ys) k) (elim (cases_lt k 8) [
      | inl first ↦ rw (get_or_append_left xs ys (pos 0) k (omega arith)) (omega (arith, xs_within k))
      | inr last ↦ rw (get_or-append_right xs ys 8 k (pos 0) xs_long last) (omega (arith, ys_within (k - 8)))
    ])

-- those of one
pub picked_of_one : (ks : List ℕ) (xs : List ℤ) (place : ℕ → ℕ) → length ks ≡ 8 → length xs ≡ 8 → NumbersWithin (2 ^ 62 - 1) xs → agree_below (λ l. eqb (get_or ks l 0) (place l) && ltb (place l) 8) (λ _. true) 8 ≡ true
    → (l : ℕ) → l < 8 → number_at (map (λ k. to_z w64 (get_or (map bits xs ++ map bits xs) k 0)) ks) l ≡ number_at xs (place l)
picked_of_one ks xs place ks_long xs_long within test l h =
    let both = and_parts _ _ (agree_below_at (λ l. eqb (get_or ks l 0) (place l) && ltb (place l) 8) (λ _. true) 8 l test h) in
    let below : place l < 8 = ltb-true (place l) 8 both.1 in
    picked ks xs xs ks_long xs_long xs_long within within l (place l) h (eqb-true (get_or ks l 0) (place l) both.0) (omega (arith, below))
    ∙ get_or_append_left xs xs (pos 0) (place l) (omega (arith, below))

-- each lane of the one or of the other
pub picked_of_two : (ks : List ℕ) (xs ys : List ℤ) (first : ℕ → Bool) → length ks ≡ 8 → length xs ≡ 8 → length ys ≡ 8 → NumbersWithin (2 ^ 62 - 1) xs → NumbersWithin (2 ^ 62 - 1) ys → agree_below (λ l. eqb (get_or ks l 0) (cond (first l) l (8 + l))) (λ _. true) 8 ≡ true
    → (l : ℕ) → l < 8 → number_at (map (λ k. to_z w64 (get_or (map bits xs ++ map bits ys) k 0)) ks) l ≡ cond (first l) (number_at xs l) (number_at ys l)
picked_of_two ks xs ys first ks_long xs_long ys_long xs_within ys_within test l h =
    go (first l) (eqb-true (get_or ks l 0) (cond (first l) l (8 + l)) (agree_below_at (λ l. eqb (get_or ks l 0) (cond (first l) l (8 + l))) (λ _. true) 8 l test h))
  where
    go : (b : Bool) → get_or ks l 0 ≡ cond b l (8 + l) → number_at (map (λ k. to_z w64 (get_or (map bits xs ++ map bits ys) k 0)) ks) l ≡ cond b (number_at xs l) (number_at ys l)
    go true place = picked ks xs ys ks_long xs_long ys_long xs_within ys_within l l h place (omega arith) ∙ get_or_append_left xs ys (pos 0) l (omega arith)
    go false place =
        let back : 8 + l - 8 ≡ l = omega arith in
        picked ks xs ys ks_long xs_long ys_long xs_within ys_within l (8 + l) h place (omega arith) ∙ get_or-append_right xs ys 8 (8 + l) (pos 0) xs_long (omega arith) ∙ ap (number_at ys) back

-- a pair of two such lanes
pub pair_by : (b : Bool) (x y : Cx) (re im : ℤ) → re ≡ cond b x.re y.re → im ≡ cond b x.im y.im → let pair : Cx = record { re = re; im = im } in pair ≡ cond b x y
pair_by true x y re im p q = λ i. record { re = p i; im = q i }
pair_by false x y re im p q = λ i. record { re = p i; im = q i }

-- a rounded product with a conjugate, from its parts
pub scaled_back_of_parts : (w z : Cx) (p q r s d e : ℤ) → p ≡ w.re *ℤ z.re → q ≡ w.im *ℤ z.im → r ≡ w.re *ℤ z.im → s ≡ w.im *ℤ z.re → d ≡ half_up 20 (p +ℤ q) → e ≡ half_up 20 (r -ℤ s)
    → let pair : Cx = record { re = d; im = e } in pair ≡ scaled_product (conjugate w) z
unfolding scaled_product times
scaled_back_of_parts w z p q r s d e p_is q_is r_is s_is d_is e_is =
    let re : p +ℤ q ≡ w.re *ℤ z.re -ℤ neg_ℤ w.im *ℤ z.im = rw (p_is, q_is, neg_ℤ-*ℤ w.im z.im, neg_ℤ-neg_ℤ (w.im *ℤ z.im)) in
    let im : r -ℤ s ≡ w.re *ℤ z.im +ℤ neg_ℤ w.im *ℤ z.re = rw (r_is, s_is, neg_ℤ-*ℤ w.im z.re) in
    rw (d_is, e_is, re, im)
