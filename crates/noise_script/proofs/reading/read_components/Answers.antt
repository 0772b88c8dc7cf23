use Rattle.std.proofs.Common.{◌+◌, ℕ, ℤ, List, drop, take, sym, subst₂, ◌∙◌, arith}
use Rattle.std.proofs.lemmas.Int.{to_z-of_z}
use Rattle.std.proofs.lemmas.List.{take_rest}
use Rattle.std.specs.Fmt.{signed_decimal}
use Rattle.std.specs.Int.{w16}
use Rattle.noise_script.specs.Keys.{SaysComponents}
use Rattle.noise_script.proofs.Items.{fits}
use Rattle.noise_script.proofs.Keys.{component_words}
use Rattle.word_grammar.specs.Signs.{IsSigned, SaysSigned}
use Rattle.word_grammar.proofs.Marks.{joined, whole_at}
use Rattle.word_grammar.proofs.Pairs.{pair_rest, pair_short, pair_word}
use Rattle.noise_script.proofs.reading.read_components.Goals as goal

pub returns-in-Err-clause-bad : goal.returns-in-Err-clause-bad
returns-in-Err-clause-bad c =
    pair_word 32 (SaysSigned 32768 32767) (λ _. IsSigned 32768 32767) component_words c.args.words.now c.word_end-end.result c.in-Err.at c.word_end-end.ensures c.in-Err.ensures.bad

pub returns-then-end-words-clause-bad : goal.returns-then-end-words-clause-bad
returns-then-end-words-clause-bad c =
    pair_short 32 (SaysSigned 32768 32767) (λ _. IsSigned 32768 32767) component_words c.args.words.now c.word_end-end.result c.in-Ok.i c.word_end-end.ensures (omega arith) c.in-Ok.ensures.component

pub returns-in-Ok-read_component-clause-components : goal.returns-in-Ok-read_component-clause-components
returns-in-Ok-read_component-clause-components c =
    let end : ℕ = c.word_end-end.result in
    let words : List ℕ = c.args.words.now in
    let i : ℤ = c.in-Ok.i in
    let q : ℤ = c.in-Ok-read_component.q in
    let front = c.in-Ok.ensures.component in
    let says = rw take_rest at c.in-Ok-read_component.ensures.component in
    let all : SaysComponents i q words = record {
      i_fits = fits i _ front;
      q_fits = fits q _ says;
      is = whole_at 32 words end c.word_end-end.ensures (omega (arith, c.word_end-end.ensures.within)) ∙ joined (take end words) (signed_decimal i) (drop (end + 1) words) (signed_decimal q) front.is says.is;
    } in
    subst₂ (λ (x y : ℤ). SaysComponents x y words) (sym (to_z-of_z w16 i (fits i _ front))) (sym (to_z-of_z w16 q (fits q _ says))) all

pub returns-in-Err-read_component-clause-bad : goal.returns-in-Err-read_component-clause-bad
returns-in-Err-read_component-clause-bad c =
    let bad = rw take_rest at c.in-Err-read_component.ensures.bad in
    pair_rest 32 (SaysSigned 32768 32767) (λ _. IsSigned 32768 32767) component_words c.args.words.now c.word_end-end.result c.in-Err-read_component.at c.in-Ok.i c.word_end-end.ensures (omega (arith, c.word_end-end.ensures.within)) c.in-Ok.ensures.component bad
