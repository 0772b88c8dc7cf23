use Rattle.std.proofs.Common.{◌≡◌, ◌+◌, ◌-◌, ◌≤◌, ℕ, List, [], ◌∷◌, ◌++◌, drop, length, take, ap, subst, ◌∙◌, arith, append_assoc, length-append}
use Rattle.std.proofs.lemmas.List.{take_rest}
use Rattle.noise_script.specs.Scripts.{IsScript, SaysScript}
use Rattle.noise_script.specs.declared.Item.{Item}
use Rattle.noise_script.proofs.Scripts.{IsCounted, MayGoOn, bad_counted, goes_on, one_less, scripts}
use Rattle.word_grammar.specs.Places.{IsBadAt}
use Rattle.word_grammar.proofs.Decided.{behind_space}
use Rattle.word_grammar.proofs.Series.{series_full, series_item, series_rest, series_space}
use Rattle.noise_script.proofs.reading.+read_items.Goals as goal

pub returns-in-Err-clause-bad : goal.returns-in-Err-clause-bad
returns-in-Err-clause-bad t c =
    let end : ℕ = c.word_end-end.result in
    let most : ℕ = 16 - length c.args.script.now in
    series_item 59 32 IsCounted MayGoOn one_less IsScript scripts most c.args.text.now end c.in-Err.at c.word_end-end.ensures
    (bad_counted most (take end c.args.text.now) c.in-Err.at (omega (arith, c.requires)) c.in-Err.ensures.bad)

pub returns-then-is_full-clause-bad : goal.returns-then-is_full-clause-bad
returns-then-is_full-clause-bad t c =
    let end : ℕ = c.word_end-end.result in
    let item : Item = c.in-Ok.item in
    let most : ℕ = 16 - length c.args.script.now in
    let size = ap length c.push.ensures ∙ length-append c.args.script.now (item ∷ []) in
    series_full 59 32 IsCounted MayGoOn one_less IsScript scripts most c.args.text.now end item c.word_end-end.ensures (omega (arith, c.word_end-end.ensures.within))
    (record { some = omega (arith, c.requires); says = c.in-Ok.ensures.item }) (λ m. omega (arith, m, size, c.if-is_full.ensures.full))

pub returns-then-not-has_space-clause-bad : goal.returns-then-not-has_space-clause-bad
returns-then-not-has_space-clause-bad t c =
    let end : ℕ = c.word_end-end.result in
    let item : Item = c.in-Ok.item in
    let most : ℕ = 16 - length c.args.script.now in
    let size = ap length c.push.ensures ∙ length-append c.args.script.now (item ∷ []) in
    let may : 2 ≤ most = omega (arith, size, c.requires, c.if-is_full.ensures.room) in
    let none = rw take_rest at c.if-not-has_space.ensures.none in
    series_space 59 32 IsCounted MayGoOn one_less IsScript scripts most c.args.text.now end item c.word_end-end.ensures (omega (arith, c.word_end-end.ensures.within))
    (record { some = omega (arith, c.requires); says = c.in-Ok.ensures.item }) may none

pub returns-in-Ok-read_items-clause-script : goal.returns-in-Ok-read_items-clause-script
returns-in-Ok-read_items-clause-script t c =
    let end : ℕ = c.word_end-end.result in
    let text : List ℕ = c.args.text.now in
    let item : Item = c.in-Ok.item in
    let most : ℕ = 16 - length c.args.script.now in
    let size = ap length c.push.ensures ∙ length-append c.args.script.now (item ∷ []) in
    let less : 16 - length c.push.new.self ≡ most - 1 = omega (arith, size) in
    let may : 2 ≤ most = omega (arith, size, c.requires, c.if-is_full.ensures.room) in
    let space = rw take_rest at c.if-not-has_space.ensures.space in
    let read = rw take_rest at c.in-Ok-read_items.ensures.script in (
      item ∷ read.0,
      read.1 ∙ ap (λ x. x ++ read.0) c.push.ensures ∙ append_assoc c.args.script.now (item ∷ []) read.0,
      goes_on most item read.0 text end c.word_end-end.ensures (omega (arith, c.word_end-end.ensures.within)) c.in-Ok.ensures.item
          (behind_space 32 text (drop 1 (drop (end + 1) text)) end space) may (subst (λ (n : ℕ). SaysScript n read.0 (drop (end + 2) text)) less read.2),
    )

pub returns-in-Err-read_items-clause-bad : goal.returns-in-Err-read_items-clause-bad
returns-in-Err-read_items-clause-bad t c =
    let end : ℕ = c.word_end-end.result in
    let text : List ℕ = c.args.text.now in
    let item : Item = c.in-Ok.item in
    let at : ℕ = c.in-Err-read_items.at in
    let most : ℕ = 16 - length c.args.script.now in
    let size = ap length c.push.ensures ∙ length-append c.args.script.now (item ∷ []) in
    let less : 16 - length c.push.new.self ≡ most - 1 = omega (arith, size) in
    let may : 2 ≤ most = omega (arith, size, c.requires, c.if-is_full.ensures.room) in
    let space = rw take_rest at c.if-not-has_space.ensures.space in
    let bad = rw take_rest at c.in-Err-read_items.ensures.bad in
    series_rest 59 32 IsCounted MayGoOn one_less IsScript scripts most text end at item c.word_end-end.ensures (omega (arith, c.word_end-end.ensures.within))
    (record { some = omega (arith, c.requires); says = c.in-Ok.ensures.item }) may (behind_space 32 text (drop 1 (drop (end + 1) text)) end space)
    (subst (λ (n : ℕ). IsBadAt (IsScript n) (drop (end + 2) text) at) less bad)
