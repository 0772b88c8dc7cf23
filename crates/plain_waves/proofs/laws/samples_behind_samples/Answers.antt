use Rattle.plain_waves.proofs.Places.{near-append, within-append}
use Rattle.plain_waves.proofs.laws.samples_behind_samples.Goals as goal

pub returns-clause-near : goal.returns-clause-near
returns-clause-near c = λ bound front back plain behind. near-append bound front back plain behind

pub returns-clause-within : goal.returns-clause-within
returns-clause-within c = λ bound front back. within-append bound front back
