use Rattle.std.proofs.Common.{◌+◌, arith}
use Rattle.std.proofs.lemmas.List.{take_rest}
use Rattle.list_texts.specs.Words.{IsSeeded, SaysRate}
use Rattle.list_texts.proofs.Lines.{bad_line, rate_words, says_head}
use Rattle.word_grammar.proofs.Pairs.{pair_rest, pair_short, pair_word}
use Rattle.list_texts.proofs.words.read_head.Goals as goal

pub returns-in-Err-clause-bad : goal.returns-in-Err-clause-bad
returns-in-Err-clause-bad c =
    bad_line c.args.line.now c.in-Err.at (pair_word 32 SaysRate (λ _. IsSeeded) rate_words c.args.line.now c.word_end-end.result c.in-Err.at c.word_end-end.ensures c.in-Err.ensures.bad)

pub returns-then-end-line-clause-bad : goal.returns-then-end-line-clause-bad
returns-then-end-line-clause-bad c =
    bad_line c.args.line.now c.word_end-end.result (pair_short 32 SaysRate (λ _. IsSeeded) rate_words c.args.line.now c.word_end-end.result c.in-Ok.rate c.word_end-end.ensures (omega arith) c.in-Ok.ensures.rate)

pub returns-in-Ok-read_seeded-clause-head : goal.returns-in-Ok-read_seeded-clause-head
returns-in-Ok-read_seeded-clause-head c =
    let seeded = rw take_rest at c.in-Ok-read_seeded.ensures.seeded in
    says_head c.args.line.now c.word_end-end.result c.in-Ok.rate _ _ _ c.word_end-end.ensures (omega (arith, c.word_end-end.ensures.within)) c.in-Ok.ensures.rate seeded

pub returns-in-Err-read_seeded-clause-bad : goal.returns-in-Err-read_seeded-clause-bad
returns-in-Err-read_seeded-clause-bad c =
    let bad = rw take_rest at c.in-Err-read_seeded.ensures.bad in
    bad_line c.args.line.now (c.word_end-end.result + 1 + c.in-Err-read_seeded.at)
    (pair_rest 32 SaysRate (λ _. IsSeeded) rate_words c.args.line.now c.word_end-end.result c.in-Err-read_seeded.at c.in-Ok.rate c.word_end-end.ensures (omega (arith, c.word_end-end.ensures.within)) c.in-Ok.ensures.rate bad)
