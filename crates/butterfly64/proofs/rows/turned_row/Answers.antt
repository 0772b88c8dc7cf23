use Rattle.std.proofs.Common.{◌-◌, ◌^◌, ◌∙◌, rules, arith}
use Rattle.fixed_complex.proofs.Numbers.{numbers_wider}
use Rattle.butterfly64.proofs.RowLanes.{are_turned, narrow-lane, row-re, row-im, turns-re, turns-im, same-lane}
use Rattle.butterfly64.proofs.rows.turned_row.Goals as goal

pub widened-requires : goal.widened-requires
widened-requires c = turns-re c.args.turns.now (search rules) c.requires.turns

pub widened-requires-2 : goal.widened-requires-2
widened-requires-2 c = turns-im c.args.turns.now (search rules) c.requires.turns

pub widened-requires-3 : goal.widened-requires-3
widened-requires-3 c = row-re (2 ^ 30 - 2 ^ 12) (2 ^ 31 - 1) c.args.x.now (search rules) (omega arith) c.requires.x

pub widened-requires-4 : goal.widened-requires-4
widened-requires-4 c = row-im (2 ^ 30 - 2 ^ 12) (2 ^ 31 - 1) c.args.x.now (search rules) (omega arith) c.requires.x

pub scaled_lanes-turned-requires-clause-w : goal.scaled_lanes-turned-requires-clause-w
scaled_lanes-turned-requires-clause-w c = record { each = λ l lt. rw (same-lane c.args.turns.now c.widened.result c.widened-2.result l c.widened.ensures c.widened-2.ensures) (c.requires.turns.within l lt) }

pub scaled_lanes-turned-requires-clause-z : goal.scaled_lanes-turned-requires-clause-z
scaled_lanes-turned-requires-clause-z c =
    let re = row-re (2 ^ 30 - 2 ^ 12) (2 ^ 40) c.args.x.now (search rules) (omega arith) c.requires.x in
    let im = row-im (2 ^ 30 - 2 ^ 12) (2 ^ 40) c.args.x.now (search rules) (omega arith) c.requires.x in
    record { each = λ l lt. rw (same-lane c.args.x.now c.widened-3.result c.widened-4.result l c.widened-3.ensures c.widened-4.ensures) (record { re = re l; im = im l }) }

pub narrowed-requires : goal.narrowed-requires
narrowed-requires c =
    let all = are_turned c.args.turns.now c.args.x.now c.widened.result c.widened-2.result c.widened-3.result c.widened-4.result c.scaled_lanes-turned.result
    c.widened.ensures c.widened-2.ensures c.widened-3.ensures c.widened-4.ensures (search rules) (search rules) c.requires.turns c.requires.x c.scaled_lanes-turned.ensures.value in
    numbers_wider (2 ^ 30 - 1) (2 ^ 31 - 1) _ (omega arith) all.re

pub narrowed-requires-2 : goal.narrowed-requires-2
narrowed-requires-2 c =
    let all = are_turned c.args.turns.now c.args.x.now c.widened.result c.widened-2.result c.widened-3.result c.widened-4.result c.scaled_lanes-turned.result
    c.widened.ensures c.widened-2.ensures c.widened-3.ensures c.widened-4.ensures (search rules) (search rules) c.requires.turns c.requires.x c.scaled_lanes-turned.ensures.value in
    numbers_wider (2 ^ 30 - 1) (2 ^ 31 - 1) _ (omega arith) all.im

pub returns : goal.returns
returns c =
    let all = are_turned c.args.turns.now c.args.x.now c.widened.result c.widened-2.result c.widened-3.result c.widened-4.result c.scaled_lanes-turned.result
    c.widened.ensures c.widened-2.ensures c.widened-3.ensures c.widened-4.ensures (search rules) (search rules) c.requires.turns c.requires.x c.scaled_lanes-turned.ensures.value in
    record {
      value = λ l lt. narrow-lane c.scaled_lanes-turned.result _ l c.narrowed.ensures c.narrowed-2.ensures ∙ all.value l lt;
      re = rw c.narrowed.ensures all.re;
      im = rw c.narrowed-2.ensures all.im;
    }
