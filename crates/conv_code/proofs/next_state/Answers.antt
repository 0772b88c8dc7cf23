use Rattle.std.proofs.Common.{arith}
use Rattle.std.proofs.lemmas.Grind.{common_steps}
use Rattle.conv_code.proofs.Inputs.{next_state_along}
use Rattle.conv_code.proofs.next_state.Goals as goal

pub returns-clause-after_along : goal.returns-clause-after_along
returns-clause-after_along c = next_state_along c.args.state c.args.bit _ (grind (arith, common_steps))
