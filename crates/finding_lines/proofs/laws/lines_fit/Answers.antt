use Rattle.finding_lines.proofs.Rooms.{cut_line_fits, next_line_fits}
use Rattle.finding_lines.proofs.laws.lines_fit.Goals as goal

pub returns : goal.returns
returns c = record { next = next_line_fits; cut = cut_line_fits }
