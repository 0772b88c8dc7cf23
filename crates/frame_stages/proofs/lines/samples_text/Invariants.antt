use Rattle.std.proofs.Common.{◌≡◌, take}
use Rattle.frame_stages.specs.Lines.{text_of_samples}
use Rattle.frame_stages.proofs.lines.samples_text.Given as goal

abbrev pub invariant-loop-sample : goal.invariant-loop-sample
invariant-loop-sample l = l.text.items ≡ text_of_samples (take l.sample-index l.samples)
