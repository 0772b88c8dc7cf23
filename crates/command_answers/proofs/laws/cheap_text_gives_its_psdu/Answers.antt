use Rattle.command_answers.proofs.Flipped.{cheap_outcome}
use Rattle.command_answers.proofs.laws.cheap_text_gives_its_psdu.Goals as goal

pub returns : goal.returns
returns c = cheap_outcome c.little_cost.ensures
