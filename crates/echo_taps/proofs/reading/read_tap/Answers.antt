use Rattle.std.proofs.Common.{◌+◌, ◌≤◌, ℕ, ℤ, List, drop, take, unsigned_abs, sym, subst₂, arith, ◌∙◌}
use Rattle.std.proofs.lemmas.Int.{ints, to_z-of_z}
use Rattle.std.proofs.lemmas.List.{take_rest}
use Rattle.std.specs.Fmt.{decimal}
use Rattle.std.specs.Int.{w16}
use Rattle.echo_taps.specs.Texts.{AreSizes, SaysTap, sizes_text}
use Rattle.echo_taps.proofs.TapWords.{bad_tap, delay_words}
use Rattle.word_grammar.specs.Numbers.{SaysNumber}
use Rattle.word_grammar.proofs.Marks.{joined, whole_at}
use Rattle.word_grammar.proofs.Pairs.{pair_rest, pair_short, pair_word}
use Rattle.echo_taps.proofs.reading.read_tap.Goals as goal

pub returns-in-Err-clause-bad : goal.returns-in-Err-clause-bad
returns-in-Err-clause-bad c =
    bad_tap c.args.least c.args.most c.args.text.now c.in-Err.at
    (pair_word 32 (SaysNumber c.args.least 7) (λ _. AreSizes c.args.most) (delay_words c.args.least c.args.most c.requires.most) c.args.text.now c.word_end-end.result c.in-Err.at c.word_end-end.ensures c.in-Err.ensures.bad)

pub returns-then-end-text-clause-bad : goal.returns-then-end-text-clause-bad
returns-then-end-text-clause-bad c =
    bad_tap c.args.least c.args.most c.args.text.now c.word_end-end.result
    (pair_short 32 (SaysNumber c.args.least 7) (λ _. AreSizes c.args.most) (delay_words c.args.least c.args.most c.requires.most) c.args.text.now c.word_end-end.result c.in-Ok.delay c.word_end-end.ensures (omega arith) c.in-Ok.ensures.number)

pub returns-in-Ok-read_sizes-clause-tap : goal.returns-in-Ok-read_sizes-clause-tap
returns-in-Ok-read_sizes-clause-tap c =
    let end : ℕ = c.word_end-end.result in
    let text : List ℕ = c.args.text.now in
    let delay : ℕ = c.in-Ok.delay in
    let re : ℤ = c.in-Ok-read_sizes.re in
    let im : ℤ = c.in-Ok-read_sizes.im in
    let says = rw take_rest at c.in-Ok-read_sizes.ensures.sizes in
    let small : unsigned_abs re + unsigned_abs im ≤ 256 = omega (arith, says.size, c.requires.most) in
    let all : SaysTap c.args.least c.args.most (record { delay = delay; re = re; im = im }) text = record {
      from = c.in-Ok.ensures.number.from;
      up_to = c.in-Ok.ensures.number.up_to;
      size = says.size;
      is = whole_at 32 text end c.word_end-end.ensures (omega (arith, c.word_end-end.ensures.within)) ∙ joined (take end text) (decimal delay) (drop (end + 1) text) (sizes_text re im) c.in-Ok.ensures.number.is says.is;
    } in
    subst₂ (λ (x y : ℤ). SaysTap c.args.least c.args.most (record { delay = delay; re = x; im = y }) text) (sym (to_z-of_z w16 re (omega (arith, ints, small)))) (sym (to_z-of_z w16 im (omega (arith, ints, small)))) all

pub returns-in-Err-read_sizes-clause-bad : goal.returns-in-Err-read_sizes-clause-bad
returns-in-Err-read_sizes-clause-bad c =
    let end : ℕ = c.word_end-end.result in
    let bad = rw take_rest at c.in-Err-read_sizes.ensures.bad in
    bad_tap c.args.least c.args.most c.args.text.now (end + 1 + c.in-Err-read_sizes.at)
    (pair_rest 32 (SaysNumber c.args.least 7) (λ _. AreSizes c.args.most) (delay_words c.args.least c.args.most c.requires.most) c.args.text.now end c.in-Err-read_sizes.at c.in-Ok.delay c.word_end-end.ensures (omega (arith, c.word_end-end.ensures.within)) c.in-Ok.ensures.number bad)
