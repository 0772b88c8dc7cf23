use Rattle.std.proofs.Common.{arith, drop, nat_eq, length-drop}
use Rattle.std.proofs.lemmas.List.Sums.{common_prefix_len-le}
use Rattle.word_grammar.proofs.words.shared_front.Goals as goal

pub returns : goal.returns
returns c =
    let a = drop c.loop-at.at c.args.a.now in
    let b = drop c.loop-at.at c.args.b.now in
    let none = common_prefix_len-le nat_eq a b in
    omega (arith, c.min-most.ensures, c.loop-at.invariant, none.0, none.1, length-drop c.loop-at.at c.args.a.now, length-drop c.loop-at.at c.args.b.now)
