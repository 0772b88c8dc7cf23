use Rattle.std.proofs.Common.{arith}
use Rattle.std.proofs.lemmas.List.{take_rest}
use Rattle.list_texts.specs.Words.{AreDigits}
use Rattle.list_texts.proofs.Lines.{gap_words}
use Rattle.word_grammar.specs.Numbers.{SaysNumber}
use Rattle.word_grammar.proofs.Pairs.{pair_rest, pair_short, pair_word}
use Rattle.list_texts.proofs.words.read_gapped.Goals as goal

pub returns-in-Err-clause-bad : goal.returns-in-Err-clause-bad
returns-in-Err-clause-bad c =
    pair_word 32 (SaysNumber 16 1048576) (λ _. AreDigits) gap_words c.args.words.now c.word_end-end.result c.in-Err.at c.word_end-end.ensures c.in-Err.ensures.bad

pub returns-then-end-words-clause-bad : goal.returns-then-end-words-clause-bad
returns-then-end-words-clause-bad c =
    pair_short 32 (SaysNumber 16 1048576) (λ _. AreDigits) gap_words c.args.words.now c.word_end-end.result c.in-Ok.gap c.word_end-end.ensures (omega arith) c.in-Ok.ensures.number

pub returns-in-Err-check_digits-clause-bad : goal.returns-in-Err-check_digits-clause-bad
returns-in-Err-check_digits-clause-bad c =
    let bad = rw take_rest at c.in-Err-check_digits.ensures.bad in
    pair_rest 32 (SaysNumber 16 1048576) (λ _. AreDigits) gap_words c.args.words.now c.word_end-end.result c.in-Err-check_digits.at c.in-Ok.gap c.word_end-end.ensures (omega (arith, c.word_end-end.ensures.within)) c.in-Ok.ensures.number bad
