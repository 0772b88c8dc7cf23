use Rattle.std.proofs.Common.{arith, length, length-take, ◌≡◌, rules}
use Rattle.std.proofs.lemmas.Grind.{common_steps}
use Rattle.modem_ports.proofs.Pieces.{front-copied}
use Rattle.modem_ports.proofs.unfailing.NeverFailsSource.read.Goals as goal

pub returns-clause-step : goal.returns-clause-step
returns-clause-step c =
    let copied = rw c.deref.ensures.value at c.copy_from_slice.ensures.after in
    let as_long : length c.copy_from_slice.new.self ≡ c.min-count.result = omega (arith, length-take c.min-count.result c.args.buf.now) in
    record {
      within = search rules;
      given = front-copied _ _ _ _ _ _ _ c.self.view_is copied as_long;
      end = search (rules, common_steps);
      failed = search rules;
      kept = search rules;
      counted = search rules;
      stands = search rules;
    }
