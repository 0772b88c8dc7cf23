use Rattle.command_answers.proofs.Flipped.{flipped_outcome}
use Rattle.command_answers.proofs.laws.flipped_text_gives_its_psdu.Goals as goal

pub returns : goal.returns
returns c = flipped_outcome c.few_flips.ensures
