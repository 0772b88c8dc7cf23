use Rattle.std.proofs.Common.{length}
use Rattle.echo_taps.proofs.reading.+read_taps.Given as goal

abbrev pub decreases-read_taps : goal.decreases-read_taps
decreases-read_taps l = length l.text.now
