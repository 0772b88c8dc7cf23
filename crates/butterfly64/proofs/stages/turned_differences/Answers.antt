use Rattle.std.proofs.Common.{◌≡◌, ◌+◌, ◌-◌, ◌*◌, ◌%◌, ap, sym, ◌∙◌, arith}
use Rattle.fixed_complex.specs.declared.Cx.{Cx}
use Rattle.fixed_complex.specs.Pairs.{conjugate, minus, scaled_product}
use Rattle.fixed_complex.specs.Turns.{turn_at}
use Rattle.butterfly64.specs.Rows.{apart, row_lane}
use Rattle.butterfly64.specs.StagedSums.{stage_turn}
use Rattle.butterfly64.proofs.RowStages.{part_turn_in_row, row_of_part_turns, unturned}
use Rattle.butterfly64.proofs.stages.turned_differences.Goals as goal

pub turned_back_row-requires-clause-turns : goal.turned_back_row-requires-clause-turns
turned_back_row-requires-clause-turns c = row_of_part_turns c.args.stage c.args.p c.requires.stage c.requires.p

pub returns-in-5 : goal.returns-in-5
returns-in-5 c = λ l lt.
    let z = minus (row_lane c.args.first.now l) (row_lane c.args.last.now l) in
    let last : c.args.stage ≡ 5 = omega arith in
    let first : 32 * ((8 * c.args.p + l) % 1) ≡ 0 = omega arith in
    let none : stage_turn (5 - c.args.stage) ((8 * c.args.p + l) % apart c.args.stage) ≡ turn_at 0 = rw last (ap turn_at first) in
    c.difference_row.ensures.value l lt ∙ sym (ap (λ (t : Cx). scaled_product (conjugate t) z) none ∙ unturned z)

pub returns-in-4 : goal.returns-in-4
returns-in-4 c = λ l lt.
    let z = minus (row_lane c.args.first.now l) (row_lane c.args.last.now l) in
    let fifth : c.args.stage ≡ 4 = omega arith in
    let place : 16 * ((8 * c.args.p + l) % 2) ≡ 16 * (l % 2) = omega arith in
    let turn : stage_turn (5 - c.args.stage) ((8 * c.args.p + l) % apart c.args.stage) ≡ turn_at (16 * (l % 2)) = rw fifth (ap turn_at place) in
    c.quartered_difference_row.ensures l lt ∙ sym (ap (λ (t : Cx). scaled_product (conjugate t) z) turn)

pub returns-in_default : goal.returns-in_default
returns-in_default c = λ l lt.
    c.turned_back_row.ensures l lt
    ∙ ap (λ (t : Cx). scaled_product (conjugate t) (row_lane c.difference_row-in_default.result l)) (part_turn_in_row c.args.stage c.args.p l c.requires.stage c.requires.p lt)
    ∙ ap (scaled_product (conjugate (stage_turn (5 - c.args.stage) ((8 * c.args.p + l) % apart c.args.stage)))) (c.difference_row-in_default.ensures.value l lt)
