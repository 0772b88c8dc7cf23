use Rattle.std.proofs.Common.{◌≡◌, ◌+◌, ◌≤◌, drop, vec_len}
use Rattle.std.specs.Vec.{vec_capacity}
use Rattle.noise_script.specs.Effects.{added_by_all, after_items}
use Rattle.noise_script.proofs.applying.apply_items.Given as goal

abbrev pub invariant-loop-item : goal.invariant-loop-item
invariant-loop-item l = record {
  after : after_items (drop l.item-index l.items) l.samples.items ≡ after_items l.items l.initial.samples.items;
  len : vec_len l.samples + added_by_all (drop l.item-index l.items) ≤ vec_len l.initial.samples + added_by_all l.items;
  room : vec_len l.samples + added_by_all (drop l.item-index l.items) ≤ vec_capacity l.samples;
}
