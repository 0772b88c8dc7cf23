use Rattle.std.proofs.Common.{◌+◌, ◌-◌, ◌^◌, ◌∙◌, rules, arith}
use Rattle.butterfly64.proofs.RowLanes.{are_turned_back, narrow-lane, row-re, row-im, turns-re, turns-im, same-lane}
use Rattle.butterfly64.proofs.rows.turned_back_row.Goals as goal

pub widened-requires : goal.widened-requires
widened-requires c = turns-re c.args.turns.now (search rules) c.requires.turns

pub widened-requires-2 : goal.widened-requires-2
widened-requires-2 c = turns-im c.args.turns.now (search rules) c.requires.turns

pub widened-requires-3 : goal.widened-requires-3
widened-requires-3 c = row-re (2 ^ 30 + 2 ^ 15) (2 ^ 31 - 1) c.args.x.now (search rules) (omega arith) c.requires.x

pub widened-requires-4 : goal.widened-requires-4
widened-requires-4 c = row-im (2 ^ 30 + 2 ^ 15) (2 ^ 31 - 1) c.args.x.now (search rules) (omega arith) c.requires.x

pub scaled_back_lanes-turned-requires-clause-w : goal.scaled_back_lanes-turned-requires-clause-w
scaled_back_lanes-turned-requires-clause-w c = record { each = λ l lt. rw (same-lane c.args.turns.now c.widened.result c.widened-2.result l c.widened.ensures c.widened-2.ensures) (c.requires.turns.within l lt) }

pub scaled_back_lanes-turned-requires-clause-z : goal.scaled_back_lanes-turned-requires-clause-z
scaled_back_lanes-turned-requires-clause-z c =
    let re = row-re (2 ^ 30 + 2 ^ 15) (2 ^ 40) c.args.x.now (search rules) (omega arith) c.requires.x in
    let im = row-im (2 ^ 30 + 2 ^ 15) (2 ^ 40) c.args.x.now (search rules) (omega arith) c.requires.x in
    record { each = λ l lt. rw (same-lane c.args.x.now c.widened-3.result c.widened-4.result l c.widened-3.ensures c.widened-4.ensures) (record { re = re l; im = im l }) }

pub narrowed-requires : goal.narrowed-requires
narrowed-requires c =
    let all = are_turned_back c.args.turns.now c.args.x.now c.widened.result c.widened-2.result c.widened-3.result c.widened-4.result c.scaled_back_lanes-turned.result
    c.widened.ensures c.widened-2.ensures c.widened-3.ensures c.widened-4.ensures (search rules) (search rules) c.requires.turns c.requires.x c.scaled_back_lanes-turned.ensures.value in
    all.re

pub narrowed-requires-2 : goal.narrowed-requires-2
narrowed-requires-2 c =
    let all = are_turned_back c.args.turns.now c.args.x.now c.widened.result c.widened-2.result c.widened-3.result c.widened-4.result c.scaled_back_lanes-turned.result
    c.widened.ensures c.widened-2.ensures c.widened-3.ensures c.widened-4.ensures (search rules) (search rules) c.requires.turns c.requires.x c.scaled_back_lanes-turned.ensures.value in
    all.im

pub returns : goal.returns
returns c =
    let all = are_turned_back c.args.turns.now c.args.x.now c.widened.result c.widened-2.result c.widened-3.result c.widened-4.result c.scaled_back_lanes-turned.result
    c.widened.ensures c.widened-2.ensures c.widened-3.ensures c.widened-4.ensures (search rules) (search rules) c.requires.turns c.requires.x c.scaled_back_lanes-turned.ensures.value in
    λ l lt. narrow-lane c.scaled_back_lanes-turned.result _ l c.narrowed.ensures c.narrowed-2.ensures ∙ all.value l lt
