use Rattle.std.proofs.Common.{◌≡◌, ◌+◌, drop, nat_eq}
use Rattle.std.specs.List.{common_prefix_len}
use Rattle.word_grammar.proofs.words.shared_front.Given as goal

abbrev pub invariant-loop-at : goal.invariant-loop-at
invariant-loop-at l =
    common_prefix_len nat_eq l.a l.b ≡ l.at + common_prefix_len nat_eq (drop l.at l.a) (drop l.at l.b)
