-- The last items of lists that grow.
use Rattle.std.proofs.Common.{◌≡◌, ℕ, ◌+◌, ◌-◌, ◌<◌, ◌≤◌, ◌∙◌, List, [], ◌∷◌, ◌++◌, length, drop, take, pos, ap, sym, arith, append-nil}
use Rattle.std.proofs.Math.Seq.{drop-append-add}
use Rattle.std.proofs.lemmas.List.{drop-append-le, drop-drop, drop_all, get_or-drop, length-append, length-drop, take_all, take_at}
use borrow.Rule.Slice.PartMut.{post_of, put_mid}
use Rattle.circular_buffer.specs.Buffer.{keep_last}
use Rattle.fixed_complex.specs.declared.Sample.{Sample}
use Rattle.fixed_complex.specs.Samples.{sample_at}

-- how many there are
pub length-kept : {A : Type 0} (n : ℕ) (xs : List A) → length (keep_last n xs) ≡ length xs - (length xs - n)
length-kept n xs = length-drop (length xs - n) xs

-- fewer of the last are the last of all
pub last_of_last : {A : Type 0} (m n : ℕ) (xs : List A) → m ≤ n → keep_last m (keep_last n xs) ≡ keep_last m xs
last_of_last m n xs fewer =
    let long = length-kept n xs in
    let front : (length (keep_last n xs) - m) + (length xs - n) ≡ length xs - m = omega (arith, long) in
    let back : (length xs - n) + (length (keep_last n xs) - m) ≡ length xs - m = omega (arith, long) in
    drop-drop (length (keep_last n xs) - m) (length xs - n) xs ∙ ap (λ k. drop k xs) back

-- the last of the last and one more are those of all and one more
pub last_and_more : {A : Type 0} (n : ℕ) (xs : List A) (x : A) → keep_last n (keep_last n xs ++ x ∷ []) ≡ keep_last n (xs ++ x ∷ [])
last_and_more n xs x =
    let within : length xs - n ≤ length xs = omega arith in
    let begun = drop-append-le (length xs - n) xs (x ∷ []) within in
    let long = length-append xs (x ∷ []) in
    let both : keep_last n xs ++ x ∷ [] ≡ drop (length xs - n) (xs ++ x ∷ []) = sym begun in
    let total : length (drop (length xs - n) (xs ++ x ∷ [])) ≡ length (xs ++ x ∷ []) - (length xs - n) = length-drop (length xs - n) (xs ++ x ∷ []) in
    let back : (length xs - n) + (length (drop (length xs - n) (xs ++ x ∷ [])) - n) ≡ length (xs ++ x ∷ []) - n = omega (arith, total, long) in
    ap (keep_last n) both ∙ drop-drop (length (drop (length xs - n) (xs ++ x ∷ [])) - n) (length xs - n) (xs ++ x ∷ []) ∙ ap (λ k. drop k (xs ++ x ∷ [])) back

-- a sample that is held, counted from the last one on
pub sample_back : (n : ℕ) (xs : List Sample) (back : ℕ) → back < length (keep_last n xs)
    → sample_at (keep_last n xs) (length (keep_last n xs) - 1 - back) ≡ sample_at xs (length xs - 1 - back)
sample_back n xs back inside =
    let long = length-kept n xs in
    let at : (length xs - n) + (length (keep_last n xs) - 1 - back) ≡ length xs - 1 - back = omega (arith, long) in
    get_or-drop (length xs - n) xs (length (keep_last n xs) - 1 - back) (record { i = pos 0; q = pos 0 }) ∙ ap (sample_at xs) at

-- the last items of two pieces, of which the first has some of them
pub copied_from_both : {A : Type 0} (front back old first second : List A) (from m : ℕ) → from < length front → length old ≡ m → from + m ≡ length front + length back
    → first ≡ take (length front - from) (drop from front) → second ≡ back
    → put_mid (length front - from) (length (first ++ drop (length front - from) old) - (length front - from)) (first ++ drop (length front - from) old) second
    ≡ keep_last m (front ++ back)
copied_from_both front back old first second from m inside long total is same =
    let begun = length front - from in
    let front_part : first ≡ drop from front = is ∙ take_all begun (drop from front) (omega (arith, length-drop from front)) in
    let count : length first ≡ begun = ap length front_part ∙ length-drop from front in
    let whole = first ++ drop begun old in
    let size : length whole ≡ m = omega (arith, length-append first (drop begun old), length-drop begun old, count, long) in
    let head : take begun whole ≡ first = take_at first (drop begun old) begun count in
    let none : post_of begun (length whole - begun) whole ≡ [] = drop_all (length whole - begun) (drop begun whole) (omega (arith, length-drop begun whole)) in
    let long_both = length-append front back in
    let from_is : length (front ++ back) - m ≡ from = omega (arith, long_both, total) in
    rw (head, none, append-nil second, same, front_part)
    (sym (ap (λ k. drop k (front ++ back)) from_is ∙ drop-append-le from front back (omega arith)))

-- .. and of which it has none
pub copied_from_back : {A : Type 0} (front back new : List A) (from m : ℕ) → length front ≤ from → from + m ≡ length front + length back
    → new ≡ take (length back - (from - length front)) (drop (from - length front) back) → new ≡ keep_last m (front ++ back)
copied_from_back front back new from m past total is =
    let rest = drop (from - length front) back in
    let long_both = length-append front back in
    let from_is : length (front ++ back) - m ≡ length front + (from - length front) = omega (arith, long_both, total, past) in
    is ∙ take_all (length back - (from - length front)) rest (omega (arith, length-drop (from - length front) back))
    ∙ sym (ap (λ k. drop k (front ++ back)) from_is ∙ drop-append-add front back (from - length front))
