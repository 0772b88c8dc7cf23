use Rattle.word_grammar.proofs.Places.{bad_within}
use Rattle.list_texts.specs.Words.{IsRate}
use Rattle.list_texts.proofs.Rates.{no_rate, says_name}
use Rattle.list_texts.proofs.words.read_rate.Goals as goal

pub returns-in-Some-clause-rate : goal.returns-in-Some-clause-rate
returns-in-Some-clause-rate c = says_name c.in-Some.rate c.args.word.now c.in-Some.ensures.rate

pub returns-in-None-clause-bad : goal.returns-in-None-clause-bad
returns-in-None-clause-bad c = no_rate c.args.word.now c.shared_with_rates.result c.shared_with_rates.ensures c.in-None.ensures.none

pub returns-in-None-clause-within : goal.returns-in-None-clause-within
returns-in-None-clause-within c =
    bad_within IsRate c.args.word.now c.shared_with_rates.result (no_rate c.args.word.now c.shared_with_rates.result c.shared_with_rates.ensures c.in-None.ensures.none)
