use Rattle.std.proofs.Common.{ap, ◌∙◌}
use Rattle.rand_pcg.specs.Lcg.{increment_of, started}
use Rattle.rand_pcg.specs.Pcg.{multiplier_64}
use Rattle.frame_drills.proofs.Drawing.{behind_none}
use Rattle.frame_drills.proofs.draws.generator.Goals as goal

pub returns : goal.returns
returns c = c.new.ensures ∙ ap (λ n. started 64 multiplier_64 n (increment_of 64 11)) c.from.ensures ∙ behind_none c.args.number
