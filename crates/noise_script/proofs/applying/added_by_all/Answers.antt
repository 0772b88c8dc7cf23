use Rattle.std.proofs.Common.{ap, ◌∙◌, arith}
use Rattle.std.proofs.lemmas.List.{drop_all}
use Rattle.noise_script.specs.Effects.{added_by_all}
use Rattle.noise_script.specs.declared.Item.TheVariants.{Lead}
use Rattle.noise_script.proofs.Effects.{added_none, rest_added}
use Rattle.noise_script.proofs.applying.added_by_all.Goals as goal

pub loop-item-preserved : goal.loop-item-preserved
loop-item-preserved c =
    let more = rest_added c.args.items.now c.loop-item.item-index (Lead 0) c.loop-item-test.true in
    record { added = omega (arith, more, c.loop-item.invariant.added, c.added_by-added.ensures.added); within = omega arith }

pub returns-clause-added : goal.returns-clause-added
returns-clause-added c =
    omega (arith, c.loop-item.invariant.added, ap added_by_all (drop_all c.loop-item.item-index c.args.items.now c.loop-item-test.false) ∙ added_none)
