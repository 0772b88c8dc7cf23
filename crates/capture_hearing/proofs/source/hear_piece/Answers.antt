use Rattle.std.proofs.Common.{arith, take}
use Rattle.std.proofs.lemmas.Grind.{common_steps}
use Rattle.capture_hearing.proofs.FromSource.{heard_more}
use Rattle.capture_hearing.proofs.source.hear_piece.Goals as goal

pub returns-clause-heard : goal.returns-clause-heard
returns-clause-heard g c = λ before heard.
    heard_more before (g.S.Source.left c.args.source.now) (g.S.Source.left c.read.new.self) _ _ (take c.in-Ok.count c.read.new.buf) _ heard c.in-Ok.ensures.step.given c.hear_all.ensures.heard (grind (arith, common_steps))
