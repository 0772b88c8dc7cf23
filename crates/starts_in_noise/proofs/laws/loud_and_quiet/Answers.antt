use Rattle.starts_in_noise.proofs.Loud.{preamble_is_loud, silence_is_quiet}
use Rattle.starts_in_noise.proofs.laws.loud_and_quiet.Goals as goal

pub returns-clause-loud : goal.returns-clause-loud
returns-clause-loud c = preamble_is_loud

pub returns-clause-quiet : goal.returns-clause-quiet
returns-clause-quiet c = silence_is_quiet
