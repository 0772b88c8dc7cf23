use Rattle.std.proofs.Common.{◌+◌, ℕ, List, drop, sym, ap, ◌∙◌, arith}
use Rattle.std.proofs.lemmas.List.{drop_all}
use Rattle.noise_script.specs.Effects.{after_items}
use Rattle.noise_script.specs.declared.Item.{Item}
use Rattle.noise_script.specs.declared.Item.TheVariants.{Lead}
use Rattle.noise_script.proofs.Effects.{after_none, rest_added, rest_after}
use Rattle.noise_script.proofs.applying.apply_items.Goals as goal

pub apply_item-requires-clause-room : goal.apply_item-requires-clause-room
apply_item-requires-clause-room c =
    omega (arith, rest_added c.args.items.now c.loop-item.item-index (Lead 0) c.loop-item-test.true, c.loop-item.invariant.room)

pub loop-item-preserved : goal.loop-item-preserved
loop-item-preserved c =
    let items : List Item = c.args.items.now in
    let i : ℕ = c.loop-item.item-index in
    record {
      after = ap (λ x. after_items (drop (i + 1) items) x) c.apply_item.ensures.after ∙ sym (rest_after items i (Lead 0) c.loop-item.samples.items c.loop-item-test.true) ∙ c.loop-item.invariant.after;
      len = omega (arith, rest_added items i (Lead 0) c.loop-item-test.true, c.loop-item.invariant.len, c.apply_item.ensures.len);
      room = omega (arith, rest_added items i (Lead 0) c.loop-item-test.true, c.loop-item.invariant.room, c.apply_item.ensures.len, c.apply_item.ensures.capacity);
    }

pub returns-clause-after : goal.returns-clause-after
returns-clause-after c =
    let none = drop_all c.loop-item.item-index c.args.items.now c.loop-item-test.false in
    sym (after_none c.loop-item.samples.items) ∙ ap (λ x. after_items x c.loop-item.samples.items) (sym none) ∙ c.loop-item.invariant.after
