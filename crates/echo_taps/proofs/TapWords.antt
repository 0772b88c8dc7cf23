-- A tap, its delay and its two numbers: their texts and places.
use Rattle.std.proofs.Common.{ℕ, ◌+◌, ◌-◌, ◌<◌, ◌≤◌, ◌≡◌, ◌≢◌, ◌⊎◌, List, ◌∷◌, ℤ, pos, unsigned_abs, inl, inr, refl, sym, ◌∙◌, subst, arith}
use Rattle.std.proofs.lemmas.Fmt.{decimal_injective}
use Rattle.std.proofs.lemmas.Int.{ints}
use Rattle.std.specs.Fmt.{decimal, signed_decimal}
use Rattle.echo_taps.specs.declared.Tap.{Tap}
use Rattle.echo_taps.specs.Taps.{size_of}
use Rattle.echo_taps.specs.Texts.{AreDelayed, AreSizes, IsTap, SaysSizes, sizes_text, tap_text}
use Rattle.word_grammar.specs.Marks.{HasNo}
use Rattle.word_grammar.specs.Numbers.{SaysNumber}
use Rattle.word_grammar.specs.Places.{IsBadAt, IsDecided}
use Rattle.word_grammar.specs.Signs.{IsSigned, SaysSigned}
use Rattle.word_grammar.proofs.Decided.{decided_number, decided_pair, decided_signed}
use Rattle.word_grammar.proofs.Digits.{digits_bare, number_bare}
use Rattle.word_grammar.proofs.Marks.{bare_append, joined, seam}
use Rattle.word_grammar.proofs.Pairs.{AreWords}
use Rattle.word_grammar.proofs.Places.{bad_same}
use Rattle.word_grammar.proofs.Signs.{same_signed, signed_bare}

-- a number is in a range by its size
pub says_signed : (most : ℕ) (z : ℤ) → unsigned_abs z ≤ most → SaysSigned most most z (signed_decimal z)
says_signed most z small = record { from = omega (arith, ints); up_to = omega (arith, ints); is = refl }

pub size_within : (most : ℕ) (z : ℤ) (word : List ℕ) → SaysSigned most most z word → unsigned_abs z ≤ most
size_within most z word says = omega (arith, ints, says.from, says.up_to)

-- the two numbers of a tap
pub size_words : (most : ℕ) → most ≤ 256 → AreWords 32 (SaysSigned most most) (λ re. IsSigned (most - unsigned_abs re) (most - unsigned_abs re))
size_words most m = record {
  bare = λ v word says. signed_bare 32 most most v word (inl (omega arith)) (λ e. absurd (omega (arith, e))) (omega arith) (omega arith) says;
  same = λ u v word p q rest h. subst (λ z. IsSigned (most - unsigned_abs z) (most - unsigned_abs z) rest) (same_signed most most u v word (omega arith) (omega arith) p q) h;
  some = λ v word h. (signed_decimal (pos 0), (pos 0, says_signed (most - unsigned_abs v) (pos 0) (omega (arith, ints))));
}

pub sizes_of_pair : (most : ℕ) (text : List ℕ) → AreSizes most text → (re : ℤ) × ((im : ℤ) × SaysSizes most re im text)
sizes_of_pair most text h =
    let re = h.value in
    let im = h.behind.0 in
    let first = size_within most re h.word h.says in
    let second = size_within (most - unsigned_abs re) im h.rest h.behind.1 in
    (re, (im, record { size = omega (arith, first, second); is = h.whole ∙ joined h.word (signed_decimal re) h.rest (signed_decimal im) h.says.is h.behind.1.is }))

pub are_sizes : (most : ℕ) (re im : ℤ) → unsigned_abs re + unsigned_abs im ≤ most → AreSizes most (sizes_text re im)
are_sizes most re im small = record {
  value = re;
  word = signed_decimal re;
  rest = signed_decimal im;
  whole = refl;
  says = says_signed most re (omega (arith, small));
  behind = (im, says_signed (most - unsigned_abs re) im (omega (arith, small)));
}

-- a delay and the two numbers
pub delay_words : (least most : ℕ) → most ≤ 256 → AreWords 32 (SaysNumber least 7) (λ _. AreSizes most)
delay_words least most m = record {
  bare = λ v word says. number_bare 32 least 7 v word (inl (omega arith)) (omega arith) says;
  same = λ u v word p q rest h. h;
  some = λ v word h. (sizes_text (pos 0) (pos 0), are_sizes most (pos 0) (pos 0) (omega (arith, ints)));
}

pub tap_of_pair : (least most : ℕ) (text : List ℕ) → AreDelayed least most text → IsTap least most text
tap_of_pair least most text h =
    let sizes = sizes_of_pair most h.rest h.behind in
    let tap : Tap = record { delay = h.value; re = sizes.0; im = sizes.1.0 } in (
      tap,
      record {
        from = h.says.from;
        up_to = h.says.up_to;
        size = sizes.1.1.size;
        is = h.whole ∙ joined h.word (decimal h.value) h.rest (sizes_text sizes.0 sizes.1.0) h.says.is sizes.1.1.is;
      },
    )

pub pair_of_tap_text : (least most : ℕ) (text : List ℕ) → IsTap least most text → AreDelayed least most text
pair_of_tap_text least most text (tap, h) = record {
  value = tap.delay;
  word = decimal tap.delay;
  rest = sizes_text tap.re tap.im;
  whole = h.is;
  says = record { from = h.from; up_to = h.up_to; is = refl };
  behind = are_sizes most tap.re tap.im h.size;
}

pub bad_tap : (least most : ℕ) (text : List ℕ) (at : ℕ) → IsBadAt (AreDelayed least most) text at → IsBadAt (IsTap least most) text at
bad_tap least most text at bad = bad_same (AreDelayed least most) (IsTap least most) text at (tap_of_pair least most) (pair_of_tap_text least most) bad

-- a text is a tap's or has a bad place
pub tap_decided : (least most : ℕ) → least ≤ 7 → most ≤ 256 → IsDecided (IsTap least most)
tap_decided least most l m text =
    let sizes : IsDecided (AreSizes most) =
    decided_pair 32 (SaysSigned most most) (λ re. IsSigned (most - unsigned_abs re) (most - unsigned_abs re)) (size_words most m) (decided_signed most most (omega arith) (omega arith))
    (λ re word says. decided_signed (most - unsigned_abs re) (most - unsigned_abs re) (omega arith) (omega arith)) in
    elim (decided_pair 32 (SaysNumber least 7) (λ _. AreSizes most) (delay_words least most m) (decided_number least 7 (omega arith) l (inr (omega arith))) (λ delay word says. sizes) text) [
      | inl pair ↦ inl (tap_of_pair least most text pair)
      | inr bad ↦ inr (bad.0, bad_tap least most text bad.0 bad.1)
    ]

-- a mark that is no space, no digit and no minus sign stands in no tap
signed_has_no : (mark : ℕ) (z : ℤ) → (mark < 48) ⊎ (57 < mark) → 45 ≢ mark → unsigned_abs z ≤ 256 → HasNo mark (signed_decimal z)
signed_has_no mark z other minus small = signed_bare mark 256 256 z (signed_decimal z) other minus (omega arith) (omega arith) (says_signed 256 z small)

pub tap_bare : (tap : Tap) → tap.delay ≤ 7 → size_of tap ≤ 256 → HasNo 59 (tap_text tap)
tap_bare tap late small =
    let other : (59 < 48) ⊎ (57 < 59) = inr (omega arith) in
    bare_append 59 (decimal tap.delay) (32 ∷ sizes_text tap.re tap.im) (digits_bare 59 tap.delay other (omega arith)) (
      λ e. omega (arith, e),
      bare_append 59 (signed_decimal tap.re) (32 ∷ signed_decimal tap.im) (signed_has_no 59 tap.re other (λ e. omega (arith, e)) (omega (arith, small)))
          (λ e. omega (arith, e), signed_has_no 59 tap.im other (λ e. omega (arith, e)) (omega (arith, small))),
    )

-- taps with the same numbers are one
same_numbers : (u v : Tap) → u.delay ≡ v.delay → u.re ≡ v.re → u.im ≡ v.im → u ≡ v
same_numbers u v p q r = rw (p, q, r) refl

-- a text is one tap's
pub same_tap : (u v : Tap) → u.delay ≤ 7 → v.delay ≤ 7 → size_of u ≤ 256 → size_of v ≤ 256 → tap_text u ≡ tap_text v → u ≡ v
same_tap u v late late' small small' e =
    let space : (32 < 48) ⊎ (57 < 32) = inl (omega arith) in
    let apart = seam 32 (decimal u.delay) (decimal v.delay) (sizes_text u.re u.im) (sizes_text v.re v.im) (digits_bare 32 u.delay space (omega arith)) (digits_bare 32 v.delay space (omega arith)) e in
    let more = seam 32 (signed_decimal u.re) (signed_decimal v.re) (signed_decimal u.im) (signed_decimal v.im)
    (signed_has_no 32 u.re space (λ e. omega (arith, e)) (omega (arith, small))) (signed_has_no 32 v.re space (λ e. omega (arith, e)) (omega (arith, small'))) apart.1 in
    let delay : u.delay ≡ v.delay = decimal_injective u.delay v.delay (omega arith) (omega arith) apart.0 in
    let re : u.re ≡ v.re = same_size u.re v.re (omega (arith, small)) (omega (arith, small')) more.0 in
    let im : u.im ≡ v.im = same_size u.im v.im (omega (arith, small)) (omega (arith, small')) more.1 in
    same_numbers u v delay re im
  where
    same_size : (y z : ℤ) → unsigned_abs y ≤ 256 → unsigned_abs z ≤ 256 → signed_decimal y ≡ signed_decimal z → y ≡ z
    same_size y z p q e = same_signed 256 256 y z (signed_decimal z) (omega arith) (omega arith) (record { from = (says_signed 256 y p).from; up_to = (says_signed 256 y p).up_to; is = sym e }) (says_signed 256 z q)
