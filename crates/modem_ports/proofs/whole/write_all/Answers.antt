use Rattle.std.proofs.Common.{rules}
use Rattle.modem_ports.proofs.Pieces.{Takes-more}
use Rattle.modem_ports.proofs.whole.write_all.Goals as goal

pub loop-at-preserved : goal.loop-at-preserved
loop-at-preserved g c = record {
  within = search rules;
  took = Takes-more _ _ _ c.args.bytes.now _ _ (search rules) c.loop-at.invariant.took c.in_ok-at.ensures.step.took;
  counted = search rules;
}
