use Rattle.std.proofs.Common.{◌≡◌, ◌+◌, ◌*◌, ◌≤◌, drop}
use Rattle.noise_script.specs.Effects.{added_by_all}
use Rattle.noise_script.proofs.applying.added_by_all.Given as goal

abbrev pub invariant-loop-item : goal.invariant-loop-item
invariant-loop-item l = record {
  added : l.added + added_by_all (drop l.item-index l.items) ≡ added_by_all l.items;
  within : l.added ≤ 1048576 * l.item-index;
}
