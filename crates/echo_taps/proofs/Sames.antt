-- A text says one list of taps.
use Rattle.std.proofs.Common.{ℕ, ◌+◌, ◌-◌, ◌≤◌, ◌≡◌, List, [], ◌∷◌, drop, sym, ap, ◌∙◌, subst, arith}
use Rattle.echo_taps.specs.declared.Tap.{Tap}
use Rattle.echo_taps.specs.Laws.{OnePairs}
use Rattle.echo_taps.specs.Taps.{pairs_of, size_of}
use Rattle.echo_taps.specs.Texts.{SaysTaps, tap_text, taps_text}
use Rattle.echo_taps.proofs.Series.{first_says, rest_says}
use Rattle.echo_taps.proofs.TapWords.{same_tap, tap_bare}
use Rattle.word_grammar.specs.Marks.{HasNo}
use Rattle.word_grammar.proofs.Marks.{bare_no, seam}

bare : (least most : ℕ) (tap : Tap) (taps : List Tap) (text : List ℕ) → most ≤ 256 → SaysTaps least most (tap ∷ taps) text → HasNo 59 (tap_text tap)
bare least most tap taps text m h = let first = first_says least most tap taps text h in tap_bare tap first.up_to (omega (arith, first.size))

same_first : (least most : ℕ) (x y : Tap) (a b : List Tap) (s t : List ℕ) → most ≤ 256 → SaysTaps least most (x ∷ a) s → SaysTaps least most (y ∷ b) t → tap_text x ≡ tap_text y → x ≡ y
same_first least most x y a b s t m p q e =
    let first = first_says least most x a s p in
    let other = first_says least most y b t q in
    same_tap x y first.up_to other.up_to (omega (arith, first.size)) (omega (arith, other.size)) e

pub one_list : (least most : ℕ) (a b : List Tap) (s t : List ℕ) → most ≤ 256 → SaysTaps least most a s → SaysTaps least most b t → taps_text a ≡ taps_text b → a ≡ b
one_list least most [] b s t m p q e = absurd (omega (arith, p.some))
one_list least most (x ∷ a) [] s t m p q e = absurd (omega (arith, q.some))
one_list least most (x ∷ []) (y ∷ []) s t m p q e = ap (λ z. z ∷ []) (same_first least most x y [] [] s t m p q e)
one_list least most (x ∷ []) (y ∷ z ∷ b) s t m p q e =
    absurd (bare_no 59 (tap_text y) (32 ∷ taps_text (z ∷ b)) (subst (HasNo 59) e (bare least most x [] s m p)))
one_list least most (x ∷ w ∷ a) (y ∷ []) s t m p q e =
    absurd (bare_no 59 (tap_text x) (32 ∷ taps_text (w ∷ a)) (subst (HasNo 59) (sym e) (bare least most y [] t m q)))
one_list least most (x ∷ w ∷ a) (y ∷ z ∷ b) s t m p q e =
    let apart = seam 59 (tap_text x) (tap_text y) (32 ∷ taps_text (w ∷ a)) (32 ∷ taps_text (z ∷ b)) (bare least most x (w ∷ a) s m p) (bare least most y (z ∷ b) t m q) e in
    let same : x ≡ y = same_first least most x y (w ∷ a) (z ∷ b) s t m p q apart.0 in
    let there = rest_says least most y z b t q in
    let here : SaysTaps (y.delay + 1) (most - size_of y) (w ∷ a) (taps_text (w ∷ a)) = subst (λ tap. SaysTaps (tap.delay + 1) (most - size_of tap) (w ∷ a) (taps_text (w ∷ a))) same (rest_says least most x w a s p) in
    let more : w ∷ a ≡ z ∷ b = one_list (y.delay + 1) (most - size_of y) (w ∷ a) (z ∷ b) (taps_text (w ∷ a)) (taps_text (z ∷ b)) (omega arith) here there (ap (drop 1) apart.1) in
    cc

pub one_pairs : OnePairs
one_pairs text a b (taps, says, is) (taps', says', is') =
    is ∙ ap pairs_of (one_list 1 256 taps taps' text text (omega arith) says says' (sym says.is ∙ says'.is)) ∙ sym is'
