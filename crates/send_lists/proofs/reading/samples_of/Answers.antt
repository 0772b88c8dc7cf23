use Rattle.std.proofs.Common.{arith}
use Rattle.send_lists.proofs.Samples.{count_one}
use Rattle.send_lists.proofs.reading.samples_of.Goals as goal

pub returns-clause-count : goal.returns-clause-count
returns-clause-count c = grind (arith, count_one c.args.entry.now)
