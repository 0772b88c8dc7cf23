use Rattle.std.proofs.Common.{◌≡◌, take, IfSome}
use Rattle.word_grammar.specs.Numbers.{Grows, digits_read}
use Rattle.word_grammar.proofs.numbers.number.Given as goal

abbrev pub invariant-loop-at : goal.invariant-loop-at
invariant-loop-at l = record {
  read : take l.at l.word ≡ digits_read l.read;
  grows : IfSome l.read (Grows l.least l.most);
}
