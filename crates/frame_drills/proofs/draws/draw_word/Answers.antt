use Rattle.frame_drills.proofs.Drawing.{behind_drawn, word_drawn}
use Rattle.frame_drills.proofs.draws.draw_word.Goals as goal

pub returns-clause-word : goal.returns-clause-word
returns-clause-word c = λ number n there. word_drawn number n c.next_word.result c.args.words.now c.next_word.new.self c.next_word.ensures there

pub returns-clause-behind : goal.returns-clause-behind
returns-clause-behind c = λ number n there. behind_drawn number n c.next_word.result c.args.words.now c.next_word.new.self c.next_word.ensures there
