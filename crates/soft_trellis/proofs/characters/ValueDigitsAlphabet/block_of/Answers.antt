use Rattle.std.proofs.Common.{◌≡◌, ℕ, zero, suc, ◌+◌, ◌%◌, ◌^◌, List, [], ◌∷◌, length, map, take, get_or, replicate, refl, sym, subst, ap, ◌∙◌, arith, bit_and, cond, ltb, eqb, true}
use lib.Lanes.{zip2, sel_l, top}
use Rattle.std.proofs.lemmas.Bool.{agree_below_at, eqb-true}
use Rattle.std.proofs.lemmas.Grind.{and_numeral}
use Rattle.std.proofs.lemmas.List.{length-map, take_all}
use Rattle.std.proofs.lemmas.List.Elements.{All-head, All-map, All-tail}
use Rattle.std.proofs.lemmas.Simd.{length-sel_l, length-zip2, zip2_splat}
use Rattle.byte_lanes.proofs.ByteMasks.{differ_mask, same_by_mask}
use Rattle.soft_trellis.specs.Text.{digit_of}
use Rattle.soft_trellis.specs.Values.{AreValues, IsValue}
use Rattle.soft_trellis.proofs.characters.ValueDigitsAlphabet.block_of.Goals as goal

-- numbers below 16 made of any lanes
abbrev low : List ℕ → List ℕ
low xs = zip2 (λ x y. bit_and x y) xs (replicate 16 15)

low_is : (xs : List ℕ) → length xs ≡ 16 → low xs ≡ map (λ x. bit_and x 15) xs
low_is xs long = zip2_splat (λ x y. bit_and x y) xs 16 15 long

AreValues-low : (xs : List ℕ) → length xs ≡ 16 → AreValues (low xs)
AreValues-low xs long =
    subst AreValues (sym (low_is xs long)) (All-map IsValue (λ x. bit_and x 15) xs (λ k d within. omega (arith, and_numeral (get_or xs k d) 14 refl)))

-- the digits of so many values, as lanes
abbrev plus : ℕ → List ℕ → List ℕ
plus n values =
    zip2 (λ x y. (x + y) % 256) values (sel_l (map (top 7) (zip2 (λ x y. cond (ltb x y) 255 0) values (replicate n 10))) (replicate n 48) (replicate n 87))

one_digit : (value : ℕ) → IsValue value → (value + cond (top 7 (cond (ltb value 10) 255 0)) 48 87) % 256 ≡ digit_of value
one_digit value is =
    eqb-true _ _ (agree_below_at (λ value. eqb ((value + cond (top 7 (cond (ltb value 10) 255 0)) 48 87) % 256) (digit_of value)) (λ _. true) 16 value refl (omega arith))

written : (n : ℕ) (values : List ℕ) → length values ≡ n → AreValues values → plus n values ≡ map digit_of values
written n [] long are = refl
written zero (value ∷ values) long are = absurd (omega arith)
written (suc n) (value ∷ values) long are =
    ap (λ digit. digit ∷ plus n values) (one_digit value (All-head IsValue value values are))
    ∙ ap (λ digits. digit_of value ∷ digits) (written n values (omega arith) (All-tail IsValue value values are))

-- where they are the characters that are there, these are read
read_back : (xs ys : List ℕ) → length xs ≡ 16 → length ys ≡ 16 → differ_mask (plus 16 (low ys)) (take 16 xs) % 2 ^ 64 ≡ 0 → xs ≡ map digit_of (low ys)
read_back xs ys long also none =
    let whole : take 16 xs ≡ xs = take_all 16 xs (omega arith) in
    let count : length (low ys) ≡ 16 = ap length (low_is ys also) ∙ length-map ys (λ x. bit_and x 15) ∙ also in
    let digits : plus 16 (low ys) ≡ map digit_of (low ys) = written 16 (low ys) count (AreValues-low ys also) in
    let many : length (plus 16 (low ys)) ≡ 16 = ap length digits ∙ length-map (low ys) digit_of ∙ count in
    let front : length (take 16 xs) ≡ 16 = ap length whole ∙ long in
    let same : plus 16 (low ys) ≡ take 16 xs = same_by_mask (plus 16 (low ys)) (take 16 xs) (omega arith) (omega arith) none in
    sym whole ∙ sym same ∙ digits

-- what the numbers are made of: the characters, with nine more for a letter
abbrev clear : List ℕ → List ℕ
clear xs = zip2 (λ x y. bit_and x y) (take 16 xs) (replicate 16 64)

abbrev more : List ℕ → List ℕ
more xs = sel_l (map (top 7) (zip2 (λ x y. cond (eqb x y) 255 0) (clear xs) (replicate 16 0))) (replicate 16 0) (replicate 16 9)

abbrev made : List ℕ → List ℕ
made xs = zip2 (λ x y. (x + y) % 256) (take 16 xs) (more xs)

length-made : (xs : List ℕ) → length xs ≡ 16 → length (made xs) ≡ 16
length-made xs long =
    let front : length (take 16 xs) ≡ 16 = ap length (take_all 16 xs (omega arith)) ∙ long in
    let same = zip2 (λ x y. cond (eqb x y) 255 0) (clear xs) (replicate 16 0) in
    let clears : length (clear xs) ≡ 16 = length-zip2 (λ x y. bit_and x y) (take 16 xs) (replicate 16 64) front ∙ front in
    let tests : length same ≡ 16 = length-zip2 (λ x y. cond (eqb x y) 255 0) (clear xs) (replicate 16 0) clears ∙ clears in
    let tops : length (map (top 7) same) ≡ 16 = length-map same (top 7) ∙ tests in
    let chosen : length (more xs) ≡ 16 = length-sel_l (map (top 7) same) (replicate 16 0) (replicate 16 9) tops tops ∙ tops in
    length-zip2 (λ x y. (x + y) % 256) (take 16 xs) (more xs) (front ∙ sym chosen) ∙ front

pub returns-then-written-characters-eq0-clause-values : goal.returns-then-written-characters-eq0-clause-values
returns-then-written-characters-eq0-clause-values c =
    let xs = c.args.characters.now in
    AreValues-low (made xs) (length-made xs c.requires)

pub returns-then-written-characters-eq0-clause-read : goal.returns-then-written-characters-eq0-clause-read
returns-then-written-characters-eq0-clause-read c =
    let xs = c.args.characters.now in
    read_back xs (made xs) c.requires (length-made xs c.requires) c.if-written-characters-eq0.true
