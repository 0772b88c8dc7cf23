use Rattle.std.proofs.Common.{◌+◌, List, ℕ, sym, subst, arith}
use Rattle.std.proofs.lemmas.List.{take_rest}
use Rattle.word_grammar.specs.Places.{IsBadAt}
use Rattle.word_grammar.specs.Signs.{IsSigned}
use Rattle.word_grammar.proofs.Signs.{bad_minus, bad_plain}
use Rattle.word_grammar.proofs.numbers.signed.Goals as goal

pub returns-in-Err-clause-bad : goal.returns-in-Err-clause-bad
returns-in-Err-clause-bad c =
    let bad = rw take_rest at c.in-Err.ensures.bad in
    let same = sym c.if-has_minus.ensures.minus.1 in
    subst (λ (w : List ℕ). IsBadAt (IsSigned c.args.below c.args.above) w (1 + c.in-Err.at)) same (bad_minus c.args.below c.args.above _ _ (omega arith) bad)

pub returns-in-Err-number-clause-bad : goal.returns-in-Err-number-clause-bad
returns-in-Err-number-clause-bad c = bad_plain c.args.below c.args.above _ _ c.if-has_minus.ensures.none c.in-Err-number.ensures.bad
