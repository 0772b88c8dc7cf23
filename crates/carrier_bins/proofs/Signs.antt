-- The signs in a text, and outside it.
use Rattle.std.proofs.Common.{◌≡◌, ℕ, List, length, slice_index, ap, arith, refl, ℤ, pos, negsuc, ◌+ℤ◌, ◌≤ℤ◌, ◌<ℤ◌, ◌+◌, ◌<◌, ◌∙◌, sym, true, eqb, inl, inr, unsigned_abs}
use Rattle.std.proofs.lemmas.Int.{ints}
use Rattle.std.proofs.lemmas.List.{get_or_past}
use Rattle.carrier_bins.specs.Signs.{sign_at, sign_in, sign_of}
use Rattle.std.proofs.lemmas.Bool.{agree_below, agree_below_at, cases_lt, eqb-true}

-- where the text has a place
pub sign_inside : (signs : List ℕ) (carrier : ℤ) (place : ℕ) → carrier +ℤ pos 26 ≡ pos place → sign_at signs carrier ≡ sign_of (slice_index signs place)
unfolding sign_at
sign_inside signs carrier place e = ap (sign_in signs) e

before_text : (signs : List ℕ) (z : ℤ) → z <ℤ pos 0 → sign_in signs z ≡ pos 0
before_text signs (pos n) h = absurd (omega (arith, ints))
before_text signs (negsuc n) h = refl

behind_text : (signs : List ℕ) (z : ℤ) → length signs ≡ 53 → pos 53 ≤ℤ z → sign_in signs z ≡ pos 0
behind_text signs (pos n) long h = ap sign_of (get_or_past signs n 0 (omega (arith, ints)))
behind_text signs (negsuc n) long h = refl

-- below carrier -26, and above 26
pub sign_below : (signs : List ℕ) (carrier : ℤ) → carrier <ℤ negsuc 25 → sign_at signs carrier ≡ pos 0
unfolding sign_at
sign_below signs carrier h = before_text signs (carrier +ℤ pos 26) (omega (arith, ints))

pub sign_above : (signs : List ℕ) (carrier : ℤ) → length signs ≡ 53 → pos 26 <ℤ carrier → sign_at signs carrier ≡ pos 0
unfolding sign_at
sign_above signs carrier long h = behind_text signs (carrier +ℤ pos 26) long (omega (arith, ints))

-- where the size of the sign is told by the size of the carrier in the text, it is for every carrier
pub signs_by_size : (signs : List ℕ) (one_at : ℕ → ℕ) → length signs ≡ 53 → ((size : ℕ) → 26 < size → one_at size ≡ 0)
    → agree_below (λ n. eqb (unsigned_abs (sign_at signs (pos n))) (one_at n)) (λ _. true) 27 ≡ true
    → agree_below (λ n. eqb (unsigned_abs (sign_at signs (negsuc n))) (one_at (n + 1))) (λ _. true) 26 ≡ true
    → (carrier : ℤ) → unsigned_abs (sign_at signs carrier) ≡ one_at (unsigned_abs carrier)
signs_by_size signs one_at long none from_0 below_0 (pos n) =
    elim (cases_lt n 27) [
      | inl lt ↦ eqb-true _ _ (agree_below_at (λ n. eqb (unsigned_abs (sign_at signs (pos n))) (one_at n)) (λ _. true) 27 n from_0 lt)
      | inr past ↦ ap unsigned_abs (sign_above signs (pos n) long (omega (arith, ints))) ∙ sym (none n (omega arith))
    ]
signs_by_size signs one_at long none from_0 below_0 (negsuc n) =
    let size : unsigned_abs (negsuc n) ≡ n + 1 = omega (arith, ints) in
    elim (cases_lt n 26) [
      | inl lt ↦ eqb-true _ _ (agree_below_at (λ n. eqb (unsigned_abs (sign_at signs (negsuc n))) (one_at (n + 1))) (λ _. true) 26 n below_0 lt) ∙ ap one_at (sym size)
      | inr past ↦ ap unsigned_abs (sign_below signs (negsuc n) (omega (arith, ints))) ∙ sym (none (unsigned_abs (negsuc n)) (omega (arith, size)))
    ]
