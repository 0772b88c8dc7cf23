use Rattle.std.proofs.Common.{◌∷◌, [], ◌++◌, ◌<◌, ℕ, Option, IfSome, get_or, ◌∙◌, sym, ap, subst, arith}
use Rattle.std.proofs.lemmas.List.{take_more, take_all}
use Rattle.word_grammar.proofs.Digits.{next_digits, number_byte, number_end}
use Rattle.word_grammar.proofs.numbers.number.Goals as goal

pub returns-in-None-clause-bad : goal.returns-in-None-clause-bad
returns-in-None-clause-bad c =
    number_byte c.args.least c.args.most c.loop-at.read c.args.word.now c.loop-at.at 0 (omega arith) c.requires.some c.requires.wide c.loop-at-test.true c.loop-at.invariant.read c.loop-at.invariant.grows c.in-None.ensures.none

pub loop-at-preserved : goal.loop-at-preserved
loop-at-preserved c =
    let byte : ℕ = get_or c.args.word.now c.loop-at.at 0 in
    record {
      read = take_more c.args.word.now c.loop-at.at 0 c.loop-at-test.true ∙ ap (λ x. x ++ byte ∷ []) c.loop-at.invariant.read ∙ sym (next_digits c.loop-at.read byte c.in-Some.next (omega arith) c.in-Some.ensures.next);
      grows = c.in-Some.ensures.grows;
    }

pub returns-in_default-clause-bad : goal.returns-in_default-clause-bad
returns-in_default-clause-bad c =
    let low : IfSome c.loop-at.read (λ v. v < c.args.least) = subst (λ (r : Option ℕ). IfSome r (λ v. v < c.args.least)) (sym c.in-Some-read.is) c.if-number-least.false in
    number_end c.args.least c.args.most c.loop-at.read c.args.word.now (omega arith) c.requires.some c.requires.wide (sym (take_all c.loop-at.at c.args.word.now c.loop-at-test.false) ∙ c.loop-at.invariant.read) c.loop-at.invariant.grows low

pub returns-in_default-2-clause-bad : goal.returns-in_default-2-clause-bad
returns-in_default-2-clause-bad c =
    let low : IfSome c.loop-at.read (λ v. v < c.args.least) = subst (λ (r : Option ℕ). IfSome r (λ v. v < c.args.least)) (sym c.in_default.is) tt in
    number_end c.args.least c.args.most c.loop-at.read c.args.word.now (omega arith) c.requires.some c.requires.wide (sym (take_all c.loop-at.at c.args.word.now c.loop-at-test.false) ∙ c.loop-at.invariant.read) c.loop-at.invariant.grows low
