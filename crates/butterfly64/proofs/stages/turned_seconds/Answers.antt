use Rattle.std.proofs.Common.{◌≡◌, ◌+◌, ◌*◌, ◌/◌, ap, sym, ◌∙◌, arith}
use Rattle.fixed_complex.specs.declared.Cx.{Cx}
use Rattle.fixed_complex.specs.Pairs.{scaled_product}
use Rattle.fixed_complex.specs.Turns.{turn_at}
use Rattle.butterfly64.specs.Rows.{apart, row_lane}
use Rattle.butterfly64.specs.StagedSums.{stage_turn}
use Rattle.butterfly64.proofs.RowStages.{row_of_turns, turn_in_row, turned_by_nothing}
use Rattle.butterfly64.proofs.stages.turned_seconds.Goals as goal

pub turned_row-requires-clause-turns : goal.turned_row-requires-clause-turns
turned_row-requires-clause-turns c = row_of_turns c.args.stage c.args.p c.requires.stage c.requires.p

pub returns-in-0-clause-value : goal.returns-in-0-clause-value
returns-in-0-clause-value c = λ l lt.
    let z = row_lane c.args.second.now l in
    let first : c.args.stage ≡ 0 = omega arith in
    let none : 32 * ((8 * c.args.p + l) / 32) ≡ 0 = omega arith in
    let turn : stage_turn c.args.stage ((8 * c.args.p + l) / apart c.args.stage) ≡ turn_at 0 = rw first (ap turn_at none) in
    sym (ap (λ (t : Cx). scaled_product t z) turn ∙ turned_by_nothing z)

pub returns-in-1-clause-value : goal.returns-in-1-clause-value
returns-in-1-clause-value c = λ l lt.
    let z = row_lane c.args.second.now l in
    let next : c.args.stage ≡ 1 = omega arith in
    let half : 16 * ((8 * c.args.p + l) / 16) ≡ 16 * (c.args.p / 2) = omega arith in
    let turn : stage_turn c.args.stage ((8 * c.args.p + l) / apart c.args.stage) ≡ turn_at (16 * (c.args.p / 2)) = rw next (ap turn_at half) in
    c.quartered_row.ensures.value l lt ∙ sym (ap (λ (t : Cx). scaled_product t z) turn)

pub returns-in_default-clause-value : goal.returns-in_default-clause-value
returns-in_default-clause-value c = λ l lt.
    c.turned_row.ensures.value l lt ∙ ap (λ (t : Cx). scaled_product t (row_lane c.args.second.now l)) (turn_in_row c.args.stage c.args.p l c.requires.stage c.requires.p lt)
