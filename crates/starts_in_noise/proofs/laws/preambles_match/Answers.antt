use Rattle.starts_in_noise.proofs.Template.{preamble_matches}
use Rattle.starts_in_noise.proofs.laws.preambles_match.Goals as goal

pub returns : goal.returns
returns c = preamble_matches
