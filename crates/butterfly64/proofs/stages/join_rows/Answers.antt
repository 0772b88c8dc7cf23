use Rattle.std.proofs.Common.{◌+◌, ◌-◌, ◌*◌, ◌^◌, ◌∙◌, ap, refl, arith}
use Rattle.fixed_complex.specs.Pairs.{minus, plus}
use Rattle.butterfly64.specs.Rows.{place_in, row_lane}
use Rattle.butterfly64.proofs.RowStages.{difference_of, first_of_size, first_written, joined_difference, joined_sum, none_written, one_written, second_of_size, second_written, sum_of}
use Rattle.butterfly64.proofs.stages.join_rows.Goals as goal

pub loop-p-init : goal.loop-p-init
loop-p-init c = none_written _ _ c.args.y.now (omega arith)

pub turned_seconds-requires-clause-second : goal.turned_seconds-requires-clause-second
turned_seconds-requires-clause-second c = second_of_size (2 ^ 30 - 2 ^ 12) c.args.stage c.loop-p.p c.args.x.now _ c.requires.stage c.loop-p-test.true c.requires.sizes c.read_rows.ensures.second

pub joined_row-requires-clause-even : goal.joined_row-requires-clause-even
joined_row-requires-clause-even c = first_of_size (2 ^ 30 - 2 ^ 12) c.args.stage c.loop-p.p c.args.x.now _ c.requires.stage c.loop-p-test.true c.requires.sizes c.read_rows.ensures.first

pub loop-p-preserved : goal.loop-p-preserved
loop-p-preserved c =
    let k = c.args.stage in
    let p = c.loop-p.p in
    let x = place_in c.args.x.now in
    one_written p (p + 1) (joined_sum k x) (joined_difference k x) c.loop-p.y c.joined_row.result.0 c.joined_row.result.1 refl c.loop-p-test.true
    (λ l lt. sum_of k (8 * p + l) x _ _ _ _ (c.read_rows.ensures.first l lt) (c.read_rows.ensures.second l lt) refl (c.joined_row.ensures.sums l lt ∙ ap (plus (row_lane c.read_rows.result.0 l)) (c.turned_seconds.ensures.value l lt)))
    (λ l lt. difference_of k (8 * p + l) x _ _ _ _ (c.read_rows.ensures.first l lt) (c.read_rows.ensures.second l lt) refl (c.joined_row.ensures.differences l lt ∙ ap (minus (row_lane c.read_rows.result.0 l)) (c.turned_seconds.ensures.value l lt)))
    c.loop-p.invariant

pub returns : goal.returns
returns c = record {
  sums = first_written c.loop-p.p _ _ c.loop-p.y (omega arith) c.loop-p.invariant;
  differences = second_written c.loop-p.p _ _ c.loop-p.y (omega arith) c.loop-p.invariant;
}
