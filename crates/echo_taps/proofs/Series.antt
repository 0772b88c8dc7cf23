-- Taps: a series of them, with a semicolon and a space between two.
use Rattle.std.proofs.Common.{ℕ, ◌+◌, ◌-◌, ◌<◌, ◌≤◌, ◌≡◌, ◌⊎◌, List, [], ◌∷◌, ◌++◌, length, take, drop, pos, inl, inr, refl, sym, ap, ◌∙◌, subst, arith}
use Rattle.std.proofs.lemmas.Bool.{cases_lt}
use Rattle.std.proofs.lemmas.Int.{ints}
use Rattle.std.proofs.lemmas.List.Sums.{sum_by-cons}
use Rattle.echo_taps.specs.declared.Tap.{Tap}
use Rattle.echo_taps.specs.Taps.{size_of}
use Rattle.echo_taps.specs.Texts.{AreTaps, IsTap, IsTapText, SaysTap, SaysTaps, tap_text, taps_text}
use Rattle.echo_taps.proofs.TapWords.{same_tap, tap_bare, tap_decided}
use Rattle.word_grammar.specs.Marks.{HasNo, IsWordEnd}
use Rattle.word_grammar.specs.Pairs.{SaysSome}
use Rattle.word_grammar.specs.Places.{IsBadAt, IsDecided}
use Rattle.word_grammar.proofs.Decided.{decided_series}
use Rattle.word_grammar.proofs.Marks.{whole_at}
use Rattle.word_grammar.proofs.Places.{bad_same}
use Rattle.word_grammar.proofs.Series.{IsSeries, SaysMore}

-- what may come: the least delay, and the most size
record IsFine (state : ℕ × ℕ) : Type 0 where
  low : 1 ≤ state.0
  late : state.0 ≤ 7
  high : state.1 ≤ 256

-- a tap that may come
pub record IsNextTap (state : ℕ × ℕ) (tap : Tap) (text : List ℕ) : Type 0 where
  pub high : state.1 ≤ 256
  pub says : SaysTap state.0 state.1 tap text

-- taps that may come
pub record AreNextTaps (state : ℕ × ℕ) (text : List ℕ) : Type 0 where
  pub high : state.1 ≤ 256
  pub are : AreTaps state.0 state.1 text

-- another may stand behind a tap, later, with what is left of the size
abbrev pub MayGoOn : ℕ × ℕ → Tap → Type 0
MayGoOn state tap = tap.delay < 7

abbrev pub next : ℕ × ℕ → Tap → ℕ × ℕ
next state tap = (tap.delay + 1, state.1 - size_of tap)

-- a tap alone, and one in front of others
pub one_says : (least most : ℕ) (tap : Tap) (text : List ℕ) → SaysTap least most tap text → SaysTaps least most (tap ∷ []) text
one_says least most tap text h = record {
  some = omega arith;
  rise = (h.from, h.up_to, tt);
  sizes = omega (arith, h.size, sum_by-cons size_of tap []);
  is = h.is;
}

text_more : (tap : Tap) (taps : List Tap) → 1 ≤ length taps → taps_text (tap ∷ taps) ≡ tap_text tap ++ 59 ∷ 32 ∷ taps_text taps
text_more tap [] l = absurd (omega arith)
text_more tap (other ∷ taps) l = refl

pub more_says : (least most : ℕ) (tap : Tap) (taps : List Tap) (word rest : List ℕ) → SaysTap least most tap word → SaysTaps (tap.delay + 1) (most - size_of tap) taps rest → SaysTaps least most (tap ∷ taps) (word ++ 59 ∷ 32 ∷ rest)
more_says least most tap taps word rest says h = record {
  some = omega arith;
  rise = (says.from, says.up_to, h.rise);
  sizes = omega (arith, says.size, h.sizes, sum_by-cons size_of tap taps);
  is = ap (λ x. x ++ 59 ∷ 32 ∷ rest) says.is ∙ ap (λ x. tap_text tap ++ 59 ∷ 32 ∷ x) h.is ∙ sym (text_more tap taps h.some);
}

-- the first of some taps, by itself
pub first_says : (least most : ℕ) (tap : Tap) (taps : List Tap) (text : List ℕ) → SaysTaps least most (tap ∷ taps) text → SaysTap least most tap (tap_text tap)
first_says least most tap taps text h = record {
  from = h.rise.0;
  up_to = h.rise.1;
  size = omega (arith, h.sizes, sum_by-cons size_of tap taps);
  is = refl;
}

-- .. and those behind it
pub rest_says : (least most : ℕ) (tap other : Tap) (taps : List Tap) (text : List ℕ) → SaysTaps least most (tap ∷ other ∷ taps) text → SaysTaps (tap.delay + 1) (most - size_of tap) (other ∷ taps) (taps_text (other ∷ taps))
rest_says least most tap other taps text h = record {
  some = omega arith;
  rise = h.rise.2;
  sizes = omega (arith, h.sizes, sum_by-cons size_of tap (other ∷ taps));
  is = refl;
}

parts : (state : ℕ × ℕ) (text : List ℕ) (taps : List Tap) → state.1 ≤ 256 → SaysTaps state.0 state.1 taps text → SaysSome (IsNextTap state) text ⊎ SaysMore 59 32 IsNextTap MayGoOn next AreNextTaps state text
parts (least, most) text [] high h = absurd (omega (arith, h.some))
parts (least, most) text (tap ∷ []) high h =
    let first = first_says least most tap [] text h in
    inl (tap, record { high = high; says = record { from = first.from; up_to = first.up_to; size = first.size; is = h.is } })
parts (least, most) text (tap ∷ other ∷ taps) high h = inr (record {
  value = tap;
  word = tap_text tap;
  rest = taps_text (other ∷ taps);
  whole = h.is;
  says = record { high = high; says = first_says least most tap (other ∷ taps) text h };
  may = let later = h.rise.2.0 in let last = h.rise.2.1 in omega (arith, later, last);
  behind = record { high = omega arith; are = (other ∷ taps, rest_says least most tap other taps text h) };
})

-- a tap of no size, as late as may be
silent : ℕ → Tap
silent delay = record { delay = delay; re = pos 0; im = pos 0 }

some_next : (least most : ℕ) → least ≤ 7 → AreTaps least most (tap_text (silent least))
unfolding silent
some_next least most late = (silent least ∷ [], one_says least most (silent least) (tap_text (silent least)) (record { from = omega arith; up_to = late; size = omega (arith, ints); is = refl }))

same_next : (state : ℕ × ℕ) (u v : Tap) (word : List ℕ) → IsNextTap state u word → IsNextTap state v word → u ≡ v
same_next state u v word p q =
    same_tap u v p.says.up_to q.says.up_to (omega (arith, p.high, p.says.size)) (omega (arith, q.high, q.says.size)) (sym p.says.is ∙ q.says.is)

pub taps_series : IsSeries 59 32 IsNextTap MayGoOn next AreNextTaps
taps_series = record {
  bare = λ state tap word h. subst (λ w. HasNo 59 w) (sym h.says.is) (tap_bare tap h.says.up_to (omega (arith, h.high, h.says.size)));
  same = λ state u v word p q m. let one = same_next state u v word p q in (subst (λ t. MayGoOn state t) one m, λ rest h. subst (λ t. AreNextTaps (next state t) rest) one h);
  some = λ state tap word h m. (tap_text (silent (tap.delay + 1)), record { high = omega (arith, h.high); are = some_next (tap.delay + 1) (state.1 - size_of tap) (omega (arith, m)) });
  one = λ state tap word h. record { high = h.high; are = (tap ∷ [], one_says state.0 state.1 tap word h.says) };
  more = λ state tap word rest h m behind. record { high = h.high; are = (tap ∷ behind.are.0, more_says state.0 state.1 tap behind.are.0 word rest h.says behind.are.1) };
  parts = λ state text h. parts state text h.are.0 h.high h.are.1;
}

-- a bad tap is one that may come, and a bad series is one of taps
pub bad_next : (least most : ℕ) (text : List ℕ) (at : ℕ) → most ≤ 256 → IsBadAt (IsTap least most) text at → IsBadAt (SaysSome (IsNextTap (least, most))) text at
bad_next least most text at high bad =
    bad_same (IsTap least most) (SaysSome (IsNextTap (least, most))) text at (λ s h. (h.0, record { high = high; says = h.1 })) (λ s h. (h.0, h.1.says)) bad

pub bad_series : (least most : ℕ) (text : List ℕ) (at : ℕ) → most ≤ 256 → IsBadAt (AreNextTaps (least, most)) text at → IsBadAt (AreTaps least most) text at
bad_series least most text at high bad =
    bad_same (AreNextTaps (least, most)) (AreTaps least most) text at (λ s h. h.are) (λ s h. record { high = high; are = h }) bad

pub bad_taps : (least most : ℕ) (text : List ℕ) (at : ℕ) → most ≤ 256 → IsBadAt (AreTaps least most) text at → IsBadAt (AreNextTaps (least, most)) text at
bad_taps least most text at high bad =
    bad_same (AreTaps least most) (AreNextTaps (least, most)) text at (λ s h. record { high = high; are = h }) (λ s h. h.are) bad

-- a text whose first tap and what stands behind it are read
pub goes_on : (least most : ℕ) (tap : Tap) (taps : List Tap) (text : List ℕ) (end : ℕ) → IsWordEnd 59 text end → end < length text → SaysTap least most tap (take end text) → drop (end + 1) text ≡ 32 ∷ drop (end + 2) text → SaysTaps (tap.delay + 1) (most - size_of tap) taps (drop (end + 2) text) → SaysTaps least most (tap ∷ taps) text
goes_on least most tap taps text end w l says e h =
    subst (SaysTaps least most (tap ∷ taps)) (sym (whole_at 59 text end w l ∙ ap (λ x. take end text ++ 59 ∷ x) e))
    (more_says least most tap taps (take end text) (drop (end + 2) text) says h)

-- each text is one of taps, or has a bad place
may_or_not : (state : ℕ × ℕ) (tap : Tap) → MayGoOn state tap ⊎ ¬ MayGoOn state tap
may_or_not state tap = elim (cases_lt tap.delay 7) [ inl m ↦ inl m | inr full ↦ inr (λ m. omega (arith, m, full)) ]

next_decided : (state : ℕ × ℕ) → IsFine state → IsDecided (SaysSome (IsNextTap state))
next_decided (least, most) fine text =
    elim (tap_decided least most fine.late fine.high text) [
      | inl tap ↦ inl (tap.0, record { high = fine.high; says = tap.1 })
      | inr bad ↦ inr (bad.0, bad_next least most text bad.0 fine.high bad.1)
    ]

pub taps_decided : IsDecided IsTapText
taps_decided text =
    elim (decided_series 59 32 IsNextTap MayGoOn next AreNextTaps taps_series IsFine (λ state tap word fine h m. record { low = omega arith; late = omega (arith, m); high = omega (arith, fine.high) }) next_decided may_or_not (1, 256) (record { low = omega arith; late = omega arith; high = omega arith }) text) [
      | inl taps ↦ inl taps.are
      | inr bad ↦ inr (bad.0, bad_series 1 256 text bad.0 (omega arith) bad.1)
    ]
