use Rattle.std.proofs.Common.{◌≡◌, ◌+◌, ℕ, List, sym, subst, arith}
use Rattle.std.proofs.lemmas.List.{take_rest}
use Rattle.list_texts.specs.Words.{IsGapped, SaysSeeded}
use Rattle.list_texts.proofs.Lines.{says_seeded, seed_words}
use Rattle.word_grammar.specs.Numbers.{SaysNumber}
use Rattle.word_grammar.proofs.Pairs.{pair_rest, pair_short, pair_word}
use Rattle.list_texts.proofs.words.read_seeded.Goals as goal

pub returns-in-Err-clause-bad : goal.returns-in-Err-clause-bad
returns-in-Err-clause-bad c =
    pair_word 32 (SaysNumber 1 127) (λ _. IsGapped) seed_words c.args.words.now c.word_end-end.result c.in-Err.at c.word_end-end.ensures c.in-Err.ensures.bad

pub returns-then-end-words-clause-bad : goal.returns-then-end-words-clause-bad
returns-then-end-words-clause-bad c =
    pair_short 32 (SaysNumber 1 127) (λ _. IsGapped) seed_words c.args.words.now c.word_end-end.result c.in-Ok.seed c.word_end-end.ensures (omega arith) c.in-Ok.ensures.number

pub returns-in-Ok-read_gapped-clause-seeded : goal.returns-in-Ok-read_gapped-clause-seeded
returns-in-Ok-read_gapped-clause-seeded c =
    let end : ℕ = c.word_end-end.result in
    let words : List ℕ = c.args.words.now in
    let same : c.unwrap-seed.result ≡ c.in-Ok.seed = rw c.unwrap-seed.ensures at c.new.ensures.value in
    let gapped = rw take_rest at c.in-Ok-read_gapped.ensures.gapped in
    subst (λ (s : ℕ). SaysSeeded s c.in-Ok-read_gapped.gap (end + 1 + c.in-Ok-read_gapped.digits) words) (sym same)
    (says_seeded words end c.in-Ok.seed _ _ c.word_end-end.ensures (omega (arith, c.word_end-end.ensures.within)) c.in-Ok.ensures.number gapped)

pub returns-in-Err-read_gapped-clause-bad : goal.returns-in-Err-read_gapped-clause-bad
returns-in-Err-read_gapped-clause-bad c =
    let bad = rw take_rest at c.in-Err-read_gapped.ensures.bad in
    pair_rest 32 (SaysNumber 1 127) (λ _. IsGapped) seed_words c.args.words.now c.word_end-end.result c.in-Err-read_gapped.at c.in-Ok.seed c.word_end-end.ensures (omega (arith, c.word_end-end.ensures.within)) c.in-Ok.ensures.number bad
