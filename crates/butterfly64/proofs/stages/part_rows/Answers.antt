use Rattle.std.proofs.Common.{◌+◌, ◌*◌, ◌^◌, refl, arith}
use Rattle.butterfly64.specs.Rows.{place_in}
use Rattle.butterfly64.proofs.RowPlaces.{rows_wider}
use Rattle.butterfly64.proofs.RowStages.{first_of_size, first_written, none_written, one_written, parted_difference, parted_sum, second_of_size, second_written, sum_at, turned_difference_at}
use Rattle.butterfly64.proofs.stages.part_rows.Goals as goal

pub loop-p-init : goal.loop-p-init
loop-p-init c = none_written _ _ c.args.y.now (omega arith)

pub read_rows-requires-clause-sizes : goal.read_rows-requires-clause-sizes
read_rows-requires-clause-sizes c = rows_wider _ _ c.args.x.now (omega arith) c.requires.sizes

pub sum_row-requires-clause-x : goal.sum_row-requires-clause-x
sum_row-requires-clause-x c = first_of_size (2 ^ 29 + 2 ^ 14) c.args.stage c.loop-p.p c.args.x.now _ c.requires.stage c.loop-p-test.true c.requires.sizes c.read_rows.ensures.first

pub sum_row-requires-clause-y : goal.sum_row-requires-clause-y
sum_row-requires-clause-y c = second_of_size (2 ^ 29 + 2 ^ 14) c.args.stage c.loop-p.p c.args.x.now _ c.requires.stage c.loop-p-test.true c.requires.sizes c.read_rows.ensures.second

pub turned_differences-requires-clause-first : goal.turned_differences-requires-clause-first
turned_differences-requires-clause-first c = first_of_size (2 ^ 29 + 2 ^ 14) c.args.stage c.loop-p.p c.args.x.now _ c.requires.stage c.loop-p-test.true c.requires.sizes c.read_rows.ensures.first

pub turned_differences-requires-clause-last : goal.turned_differences-requires-clause-last
turned_differences-requires-clause-last c = second_of_size (2 ^ 29 + 2 ^ 14) c.args.stage c.loop-p.p c.args.x.now _ c.requires.stage c.loop-p-test.true c.requires.sizes c.read_rows.ensures.second

pub loop-p-preserved : goal.loop-p-preserved
loop-p-preserved c =
    let t = c.args.stage in
    let p = c.loop-p.p in
    let x = place_in c.args.x.now in
    one_written p (p + 1) (sum_at t x) (turned_difference_at t x) c.loop-p.y c.sum_row.result c.turned_differences.result refl c.loop-p-test.true
    (λ l lt. parted_sum t (8 * p + l) x _ _ _ (c.read_rows.ensures.first l lt) (c.read_rows.ensures.second l lt) (c.sum_row.ensures l lt))
    (λ l lt. parted_difference t (8 * p + l) x _ _ _ _ (c.read_rows.ensures.first l lt) (c.read_rows.ensures.second l lt) refl (c.turned_differences.ensures l lt))
    c.loop-p.invariant

pub returns : goal.returns
returns c = record {
  sums = first_written c.loop-p.p _ _ c.loop-p.y (omega arith) c.loop-p.invariant;
  differences = second_written c.loop-p.p _ _ c.loop-p.y (omega arith) c.loop-p.invariant;
}
