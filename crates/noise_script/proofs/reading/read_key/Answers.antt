use Rattle.noise_script.proofs.Keys.{no_key}
use Rattle.noise_script.proofs.reading.read_key.Goals as goal

pub returns-in-None-clause-bad : goal.returns-in-None-clause-bad
returns-in-None-clause-bad c = no_key c.args.word.now c.shared_with_keys.result c.shared_with_keys.ensures c.in-None.ensures.none
