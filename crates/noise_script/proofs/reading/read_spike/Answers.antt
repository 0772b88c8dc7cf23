use Rattle.std.proofs.Common.{◌+◌, ℕ, ℤ, List, ◌∷◌, ◌++◌, drop, take, sym, subst₂, ◌∙◌, arith}
use Rattle.std.proofs.lemmas.Int.{to_z-of_z}
use Rattle.std.proofs.lemmas.List.{take_rest}
use Rattle.std.specs.Fmt.{decimal, signed_decimal}
use Rattle.std.specs.Int.{w16}
use Rattle.noise_script.specs.Keys.{AreComponents, SaysSpike}
use Rattle.noise_script.proofs.Keys.{spike_words}
use Rattle.word_grammar.specs.Numbers.{SaysNumber}
use Rattle.word_grammar.proofs.Marks.{joined, whole_at}
use Rattle.word_grammar.proofs.Pairs.{pair_rest, pair_short, pair_word}
use Rattle.noise_script.proofs.reading.read_spike.Goals as goal

pub returns-in-Err-clause-bad : goal.returns-in-Err-clause-bad
returns-in-Err-clause-bad c =
    pair_word 32 (SaysNumber 0 33554432) (λ _. AreComponents) spike_words c.args.words.now c.word_end-end.result c.in-Err.at c.word_end-end.ensures c.in-Err.ensures.bad

pub returns-then-end-words-clause-bad : goal.returns-then-end-words-clause-bad
returns-then-end-words-clause-bad c =
    pair_short 32 (SaysNumber 0 33554432) (λ _. AreComponents) spike_words c.args.words.now c.word_end-end.result c.in-Ok.place c.word_end-end.ensures (omega arith) c.in-Ok.ensures.number

pub returns-in-Ok-read_components-clause-spike : goal.returns-in-Ok-read_components-clause-spike
returns-in-Ok-read_components-clause-spike c =
    let end : ℕ = c.word_end-end.result in
    let words : List ℕ = c.args.words.now in
    let place : ℕ = c.in-Ok.place in
    let i : ℤ = c.in-Ok-read_components.i in
    let q : ℤ = c.in-Ok-read_components.q in
    let says = rw take_rest at c.in-Ok-read_components.ensures.components in
    let all : SaysSpike place i q words = record {
      within = c.in-Ok.ensures.number.up_to;
      i_fits = says.i_fits;
      q_fits = says.q_fits;
      is = whole_at 32 words end c.word_end-end.ensures (omega (arith, c.word_end-end.ensures.within)) ∙ joined (take end words) (decimal place) (drop (end + 1) words) (signed_decimal i ++ 32 ∷ signed_decimal q) c.in-Ok.ensures.number.is says.is;
    } in
    subst₂ (λ (x y : ℤ). SaysSpike place x y words) (sym (to_z-of_z w16 i says.i_fits)) (sym (to_z-of_z w16 q says.q_fits)) all

pub returns-in-Err-read_components-clause-bad : goal.returns-in-Err-read_components-clause-bad
returns-in-Err-read_components-clause-bad c =
    let bad = rw take_rest at c.in-Err-read_components.ensures.bad in
    pair_rest 32 (SaysNumber 0 33554432) (λ _. AreComponents) spike_words c.args.words.now c.word_end-end.result c.in-Err-read_components.at c.in-Ok.place c.word_end-end.ensures (omega (arith, c.word_end-end.ensures.within)) c.in-Ok.ensures.number bad
