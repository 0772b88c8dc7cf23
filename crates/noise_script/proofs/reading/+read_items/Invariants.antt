use Rattle.std.proofs.Common.{length}
use Rattle.noise_script.proofs.reading.+read_items.Given as goal

abbrev pub decreases-read_items : goal.decreases-read_items
decreases-read_items l = length l.text.now
