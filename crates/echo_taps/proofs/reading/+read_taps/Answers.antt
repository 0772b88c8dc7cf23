use Rattle.std.proofs.Common.{◌≡◌, ◌+◌, ◌-◌, ◌<◌, ◌≤◌, ℕ, ℤ, List, [], ◌∷◌, drop, take, unsigned_abs, of_z, to_z, ap, subst, ◌∙◌, arith}
use Rattle.std.proofs.lemmas.Int.{ints, to_z-of_z}
use Rattle.std.proofs.lemmas.List.{take_all, take_rest}
use Rattle.std.specs.Int.{w16}
use Rattle.echo_taps.specs.declared.Tap.{Tap}
use Rattle.echo_taps.specs.Taps.{size_of}
use Rattle.echo_taps.specs.Texts.{SaysTap}
use Rattle.echo_taps.proofs.Series.{AreNextTaps, IsNextTap, MayGoOn, bad_next, bad_series, bad_taps, goes_on, next, one_says, taps_series}
use Rattle.echo_taps.proofs.Taking.{with_more, with_none}
use Rattle.word_grammar.proofs.Decided.{behind_space}
use Rattle.word_grammar.proofs.Series.{series_full, series_item, series_rest, series_space}
use Rattle.echo_taps.proofs.reading.+read_taps.Goals as goal

pub returns-in-Err-clause-bad : goal.returns-in-Err-clause-bad
returns-in-Err-clause-bad t c =
    let least : ℕ = c.args.least in
    let most : ℕ = c.args.most in
    let end : ℕ = c.word_end-end.result in
    bad_series least most c.args.text.now c.in-Err.at c.requires.most
    (series_item 59 32 IsNextTap MayGoOn next AreNextTaps taps_series (least, most) c.args.text.now end c.in-Err.at c.word_end-end.ensures
    (bad_next least most (take end c.args.text.now) c.in-Err.at c.requires.most c.in-Err.ensures.bad))

pub returns-then-end-text-clause-taps : goal.returns-then-end-text-clause-taps
returns-then-end-text-clause-taps t c =
    let whole : take c.word_end-end.result c.args.text.now ≡ c.args.text.now = take_all c.word_end-end.result c.args.text.now (omega arith) in (
      c.in-Ok.tap ∷ [],
      one_says c.args.least c.args.most c.in-Ok.tap c.args.text.now (subst (SaysTap c.args.least c.args.most c.in-Ok.tap) whole c.in-Ok.ensures.tap),
      c.put.ensures ∙ with_none c.args.taps.now c.in-Ok.tap,
    )

pub returns-then-tap-eq7-clause-bad : goal.returns-then-tap-eq7-clause-bad
returns-then-tap-eq7-clause-bad t c =
    let least : ℕ = c.args.least in
    let most : ℕ = c.args.most in
    let end : ℕ = c.word_end-end.result in
    let tap : Tap = c.in-Ok.tap in
    bad_series least most c.args.text.now end c.requires.most
    (series_full 59 32 IsNextTap MayGoOn next AreNextTaps taps_series (least, most) c.args.text.now end tap c.word_end-end.ensures (omega (arith, c.word_end-end.ensures.within))
    (record { high = c.requires.most; says = c.in-Ok.ensures.tap }) (λ m. omega (arith, m, c.if-tap-eq7.true)))

-- another tap may stand behind one that is less late than 7
early : (delay : ℕ) → delay ≤ 7 → (delay ≡ 7 → ⊥) → delay < 7
early delay late other = omega (arith, other)

pub returns-then-not-has_space-clause-bad : goal.returns-then-not-has_space-clause-bad
returns-then-not-has_space-clause-bad t c =
    let least : ℕ = c.args.least in
    let most : ℕ = c.args.most in
    let end : ℕ = c.word_end-end.result in
    let tap : Tap = c.in-Ok.tap in
    let none = rw take_rest at c.if-not-has_space.ensures.none in
    bad_series least most c.args.text.now (end + 1) c.requires.most
    (series_space 59 32 IsNextTap MayGoOn next AreNextTaps taps_series (least, most) c.args.text.now end tap c.word_end-end.ensures (omega (arith, c.word_end-end.ensures.within))
    (record { high = c.requires.most; says = c.in-Ok.ensures.tap }) (early tap.delay c.in-Ok.ensures.tap.up_to c.if-tap-eq7.false) none)

-- what is left of the size
left_is : (most a b : ℕ) (tap : Tap) → size_of tap ≤ 256 → a ≡ unsigned_abs (to_z w16 (of_z w16 tap.re)) → b ≡ unsigned_abs (to_z w16 (of_z w16 tap.im)) → most - a - b ≡ most - size_of tap
left_is most a b tap small p q =
    let re = p ∙ ap (λ (z : ℤ). unsigned_abs z) (to_z-of_z w16 tap.re (omega (arith, ints, small))) in
    let im = q ∙ ap (λ (z : ℤ). unsigned_abs z) (to_z-of_z w16 tap.im (omega (arith, ints, small))) in
    omega (arith, re, im)

pub returns-in-Ok-read_taps-clause-taps : goal.returns-in-Ok-read_taps-clause-taps
returns-in-Ok-read_taps-clause-taps t c =
    let end : ℕ = c.word_end-end.result in
    let text : List ℕ = c.args.text.now in
    let tap : Tap = c.in-Ok.tap in
    let left = left_is c.args.most c.unsigned_abs.result c.unsigned_abs-2.result tap (omega (arith, c.in-Ok.ensures.tap.size, c.requires.most)) c.unsigned_abs.ensures.value c.unsigned_abs-2.ensures.value in
    let space = rw take_rest at c.if-not-has_space.ensures.space in
    let read = rw (take_rest, left) at c.in-Ok-read_taps.ensures.taps in (
      tap ∷ read.0,
      goes_on c.args.least c.args.most tap read.0 text end c.word_end-end.ensures (omega (arith, c.word_end-end.ensures.within)) c.in-Ok.ensures.tap
          (behind_space 32 text (drop 1 (drop (end + 1) text)) end space) read.1,
      read.2 ∙ with_more c.args.taps.now c.put.new.self tap read.0 c.put.ensures,
    )

pub returns-in-Err-read_taps-clause-bad : goal.returns-in-Err-read_taps-clause-bad
returns-in-Err-read_taps-clause-bad t c =
    let least : ℕ = c.args.least in
    let most : ℕ = c.args.most in
    let end : ℕ = c.word_end-end.result in
    let text : List ℕ = c.args.text.now in
    let tap : Tap = c.in-Ok.tap in
    let at : ℕ = c.in-Err-read_taps.at in
    let left = left_is most c.unsigned_abs.result c.unsigned_abs-2.result tap (omega (arith, c.in-Ok.ensures.tap.size, c.requires.most)) c.unsigned_abs.ensures.value c.unsigned_abs-2.ensures.value in
    let space = rw take_rest at c.if-not-has_space.ensures.space in
    let bad = rw (take_rest, left) at c.in-Err-read_taps.ensures.bad in
    bad_series least most text (end + 2 + at) c.requires.most
    (series_rest 59 32 IsNextTap MayGoOn next AreNextTaps taps_series (least, most) text end at tap c.word_end-end.ensures (omega (arith, c.word_end-end.ensures.within))
    (record { high = c.requires.most; says = c.in-Ok.ensures.tap }) (early tap.delay c.in-Ok.ensures.tap.up_to c.if-tap-eq7.false) (behind_space 32 text (drop 1 (drop (end + 1) text)) end space)
    (bad_taps (tap.delay + 1) (most - size_of tap) (drop (end + 2) text) at (omega (arith, c.requires.most)) bad))
