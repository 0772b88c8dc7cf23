use Rattle.std.proofs.Common.{◌+◌, ℕ, List, drop, take, sym, subst, arith}
use Rattle.std.proofs.lemmas.List.{take_rest}
use Rattle.noise_script.specs.Items.{SaysItem}
use Rattle.noise_script.specs.Keys.{IsBehind, SaysKey}
use Rattle.noise_script.proofs.Items.{bad_item, says_item}
use Rattle.noise_script.proofs.Keys.{key_words}
use Rattle.word_grammar.proofs.Marks.{whole_at}
use Rattle.word_grammar.proofs.Pairs.{pair_rest, pair_short, pair_word}
use Rattle.noise_script.proofs.reading.read_item.Goals as goal

pub returns-in-Err-clause-bad : goal.returns-in-Err-clause-bad
returns-in-Err-clause-bad c =
    bad_item c.args.text.now c.in-Err.at (pair_word 32 SaysKey IsBehind key_words c.args.text.now c.word_end-end.result c.in-Err.at c.word_end-end.ensures c.in-Err.ensures.bad)

pub returns-then-end-text-clause-bad : goal.returns-then-end-text-clause-bad
returns-then-end-text-clause-bad c =
    bad_item c.args.text.now c.word_end-end.result (pair_short 32 SaysKey IsBehind key_words c.args.text.now c.word_end-end.result c.in-Ok.key c.word_end-end.ensures (omega arith) c.in-Ok.ensures.key)

pub returns-in-Ok-read_behind-clause-item : goal.returns-in-Ok-read_behind-clause-item
returns-in-Ok-read_behind-clause-item c =
    let end : ℕ = c.word_end-end.result in
    let text : List ℕ = c.args.text.now in
    let says = rw take_rest at c.in-Ok-read_behind.ensures.item in
    let whole = whole_at 32 text end c.word_end-end.ensures (omega (arith, c.word_end-end.ensures.within)) in
    subst (SaysItem c.in-Ok-read_behind.item) (sym whole) (says_item c.in-Ok.key c.in-Ok-read_behind.item (take end text) (drop (end + 1) text) c.in-Ok.ensures.key says)

pub returns-in-Err-read_behind-clause-bad : goal.returns-in-Err-read_behind-clause-bad
returns-in-Err-read_behind-clause-bad c =
    let end : ℕ = c.word_end-end.result in
    let bad = rw take_rest at c.in-Err-read_behind.ensures.bad in
    bad_item c.args.text.now (end + 1 + c.in-Err-read_behind.at)
    (pair_rest 32 SaysKey IsBehind key_words c.args.text.now end c.in-Err-read_behind.at c.in-Ok.key c.word_end-end.ensures (omega (arith, c.word_end-end.ensures.within)) c.in-Ok.ensures.key bad)
