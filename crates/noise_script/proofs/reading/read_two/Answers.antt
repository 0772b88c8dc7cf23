use Rattle.std.proofs.Common.{◌+◌, ℕ, List, drop, take, ◌∙◌, arith}
use Rattle.std.proofs.lemmas.List.{take_rest}
use Rattle.std.specs.Fmt.{decimal}
use Rattle.noise_script.proofs.Keys.{two_words}
use Rattle.word_grammar.specs.Numbers.{IsNumber, SaysNumber}
use Rattle.word_grammar.proofs.Marks.{joined, whole_at}
use Rattle.word_grammar.proofs.Pairs.{pair_rest, pair_short, pair_word}
use Rattle.noise_script.proofs.reading.read_two.Goals as goal

pub returns-in-Err-clause-bad : goal.returns-in-Err-clause-bad
returns-in-Err-clause-bad c =
    let first : ℕ = c.args.first in
    let second : ℕ = c.args.second in
    pair_word 32 (SaysNumber 0 first) (λ _. IsNumber 0 second) (two_words first second (omega arith)) c.args.words.now c.word_end-end.result c.in-Err.at c.word_end-end.ensures c.in-Err.ensures.bad

pub returns-then-end-words-clause-bad : goal.returns-then-end-words-clause-bad
returns-then-end-words-clause-bad c =
    let first : ℕ = c.args.first in
    let second : ℕ = c.args.second in
    pair_short 32 (SaysNumber 0 first) (λ _. IsNumber 0 second) (two_words first second (omega arith)) c.args.words.now c.word_end-end.result c.in-Ok.a c.word_end-end.ensures (omega arith) c.in-Ok.ensures.number

pub returns-in-Ok-number-clause-numbers : goal.returns-in-Ok-number-clause-numbers
returns-in-Ok-number-clause-numbers c =
    let end : ℕ = c.word_end-end.result in
    let words : List ℕ = c.args.words.now in
    let says = rw take_rest at c.in-Ok-number.ensures.number in
    record {
      a_within = c.in-Ok.ensures.number.up_to;
      b_within = says.up_to;
      is = whole_at 32 words end c.word_end-end.ensures (omega (arith, c.word_end-end.ensures.within)) ∙ joined (take end words) (decimal c.in-Ok.a) (drop (end + 1) words) (decimal c.in-Ok-number.b) c.in-Ok.ensures.number.is says.is;
    }

pub returns-in-Err-number-clause-bad : goal.returns-in-Err-number-clause-bad
returns-in-Err-number-clause-bad c =
    let first : ℕ = c.args.first in
    let second : ℕ = c.args.second in
    let bad = rw take_rest at c.in-Err-number.ensures.bad in
    pair_rest 32 (SaysNumber 0 first) (λ _. IsNumber 0 second) (two_words first second (omega arith)) c.args.words.now c.word_end-end.result c.in-Err-number.at c.in-Ok.a c.word_end-end.ensures (omega (arith, c.word_end-end.ensures.within)) c.in-Ok.ensures.number bad
