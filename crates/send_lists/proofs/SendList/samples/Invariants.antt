use Rattle.std.proofs.Common.{◌≡◌, ◌++◌, drop}
use Rattle.send_lists.specs.Sent.{samples_of_list}
use Rattle.send_lists.proofs.SendList.samples.Given as goal

abbrev pub invariant-loop-entry : goal.invariant-loop-entry
invariant-loop-entry l =
    l.samples.items ++ samples_of_list (drop l.entry-index l.entry-items) ≡ samples_of_list l.entry-items
