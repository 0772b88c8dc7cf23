use Rattle.std.proofs.Common.{◌+◌, ◌≤◌, length, arith}
use Rattle.frame_search.proofs.Stretches.{first_loud-within, quiet_before_first}
use Rattle.frame_search.proofs.edges.loud_from.Goals as goal

pub overflow_add-result : goal.overflow_add-result
overflow_add-result c =
    let within = first_loud-within c.args.capture.now c.args.from c.requires.from in
    let most : c.args.from + c.first_loud.result ≤ length c.args.capture.now = rw c.first_loud.ensures within in
    omega (arith, most, c.requires.short)

pub returns-clause-most : goal.returns-clause-most
returns-clause-most c = rw c.first_loud.ensures (first_loud-within c.args.capture.now c.args.from c.requires.from)

pub returns-clause-quiet : goal.returns-clause-quiet
returns-clause-quiet c = λ place least below.
    quiet_before_first c.args.capture.now c.args.from place c.requires.from least (rw c.first_loud.ensures at below)
