use Rattle.std.proofs.Common.{◌≡◌, take}
use Rattle.frame_stages.specs.Lines.{text_of_pairs}
use Rattle.frame_stages.proofs.lines.pairs_text.Given as goal

abbrev pub invariant-loop-pair : goal.invariant-loop-pair
invariant-loop-pair l = l.text.items ≡ text_of_pairs (take l.pair-index l.pairs)
