use Rattle.std.proofs.Common.{◌+◌, ◌-◌, ◌≤◌, ◌≡◌, ℕ, ℤ, List, drop, take, unsigned_abs, sym, subst₂, arith, ap, ◌∙◌}
use Rattle.std.proofs.lemmas.Int.{ints, to_z-of_z}
use Rattle.std.proofs.lemmas.List.{take_rest}
use Rattle.std.specs.Fmt.{signed_decimal}
use Rattle.std.specs.Int.{w16, w64}
use Rattle.echo_taps.specs.Texts.{SaysSizes}
use Rattle.echo_taps.proofs.TapWords.{size_within, size_words}
use Rattle.word_grammar.specs.Signs.{IsSigned, SaysSigned}
use Rattle.word_grammar.proofs.Marks.{joined, whole_at}
use Rattle.word_grammar.proofs.Pairs.{pair_rest, pair_short, pair_word}
use Rattle.echo_taps.proofs.reading.read_sizes.Goals as goal

pub returns-in-Err-clause-bad : goal.returns-in-Err-clause-bad
returns-in-Err-clause-bad c =
    let most : ℕ = c.args.most in
    pair_word 32 (SaysSigned most most) (λ re. IsSigned (most - unsigned_abs re) (most - unsigned_abs re)) (size_words most c.requires) c.args.words.now c.word_end-end.result c.in-Err.at c.word_end-end.ensures c.in-Err.ensures.bad

pub returns-then-end-words-clause-bad : goal.returns-then-end-words-clause-bad
returns-then-end-words-clause-bad c =
    let most : ℕ = c.args.most in
    pair_short 32 (SaysSigned most most) (λ re. IsSigned (most - unsigned_abs re) (most - unsigned_abs re)) (size_words most c.requires) c.args.words.now c.word_end-end.result c.in-Ok.re c.word_end-end.ensures (omega arith) c.in-Ok.ensures.number

pub returns-in-Ok-signed-clause-sizes : goal.returns-in-Ok-signed-clause-sizes
returns-in-Ok-signed-clause-sizes c =
    let end : ℕ = c.word_end-end.result in
    let words : List ℕ = c.args.words.now in
    let most : ℕ = c.args.most in
    let re : ℤ = c.in-Ok.re in
    let im : ℤ = c.in-Ok-signed.im in
    let first = size_within most re (take end words) c.in-Ok.ensures.number in
    let fits : unsigned_abs re ≤ 256 = omega (arith, first, c.requires) in
    let re_is = to_z-of_z w64 re (omega (arith, ints, fits)) in
    let left : ℕ = most - c.unsigned_abs.result in
    let says = rw take_rest at c.in-Ok-signed.ensures.number in
    let second = size_within left im (drop (end + 1) words) says in
    let value : c.unsigned_abs.result ≡ unsigned_abs re = c.unsigned_abs.ensures.value ∙ ap (λ (z : ℤ). unsigned_abs z) re_is in
    let all : SaysSizes most re im words = record {
      size = omega (arith, first, second, value);
      is = whole_at 32 words end c.word_end-end.ensures (omega (arith, c.word_end-end.ensures.within)) ∙ joined (take end words) (signed_decimal re) (drop (end + 1) words) (signed_decimal im) c.in-Ok.ensures.number.is says.is;
    } in
    let im_fits : unsigned_abs im ≤ 256 = omega (arith, second, c.requires) in
    let im_is = to_z-of_z w64 im (omega (arith, ints, im_fits)) in
    rw (re_is, im_is) (subst₂ (λ (x y : ℤ). SaysSizes most x y words) (sym (to_z-of_z w16 re (omega (arith, ints, fits)))) (sym (to_z-of_z w16 im (omega (arith, ints, im_fits)))) all)

pub returns-in-Err-signed-clause-bad : goal.returns-in-Err-signed-clause-bad
returns-in-Err-signed-clause-bad c =
    let most : ℕ = c.args.most in
    let re : ℤ = c.in-Ok.re in
    let first = size_within most re (take c.word_end-end.result c.args.words.now) c.in-Ok.ensures.number in
    let re_is = to_z-of_z w64 re (omega (arith, ints, first, c.requires)) in
    let value : c.unsigned_abs.result ≡ unsigned_abs re = c.unsigned_abs.ensures.value ∙ ap (λ (z : ℤ). unsigned_abs z) re_is in
    let bad = rw (take_rest, value) at c.in-Err-signed.ensures.bad in
    pair_rest 32 (SaysSigned most most) (λ re. IsSigned (most - unsigned_abs re) (most - unsigned_abs re)) (size_words most c.requires) c.args.words.now c.word_end-end.result c.in-Err-signed.at re c.word_end-end.ensures (omega (arith, c.word_end-end.ensures.within)) c.in-Ok.ensures.number bad
