use Rattle.std.proofs.Common.{◌≡◌, ℕ, Err, ap, subst, arith}
use Rattle.list_texts.specs.Lists.{IsList, SaysLine}
use Rattle.list_texts.specs.declared.LineFault.TheVariants.{BadLine}
use Rattle.list_texts.proofs.Lists.{lines}
use Rattle.word_grammar.specs.Places.{IsBadAt}
use Rattle.word_grammar.proofs.Lines.{line_bad, line_short}
use Rattle.send_lists.proofs.reading.Lines.push_line.Goals as goal

pub returns-in-Err-clause-bad : goal.returns-in-Err-clause-bad
returns-in-Err-clause-bad c =
    λ at e.
    let same : c.in-Err.fault ≡ BadLine at = cc in
    line_bad 10 SaysLine IsList lines c.args.text.now c.word_end-end.result at c.word_end-end.ensures (c.in-Err.ensures.bad at (ap Err same))

pub returns-then-end-text-clause-bad : goal.returns-then-end-text-clause-bad
returns-then-end-text-clause-bad c =
    let short = line_short 10 SaysLine IsList lines c.args.text.now c.word_end-end.result c.in-Ok.entry c.word_end-end.ensures (omega arith) c.in-Ok.ensures.entry in
    λ at e.
    let same : c.word_end-end.result ≡ at = cc in
    subst (λ (n : ℕ). IsBadAt IsList c.args.text.now n) same short
