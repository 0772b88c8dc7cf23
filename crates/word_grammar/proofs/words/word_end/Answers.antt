use Rattle.word_grammar.proofs.Marks.{word_end_is}
use Rattle.word_grammar.proofs.words.word_end.Goals as goal

pub returns : goal.returns
returns c = word_end_is c.args.mark c.args.text.now _ _ c.first_mark.ensures c.unwrap_or.ensures
