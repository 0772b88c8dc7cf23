use Rattle.std.proofs.Common.{◌^◌, ◌-◌, arith, rules}
use Rattle.integer_laws.proofs.Order.{unsigned_abs-difference, unsigned_abs-sum}
use Rattle.butterfly64.specs.Lanes.{lane}
use Rattle.fixed_complex.specs.Numbers.{number_at}
use Rattle.butterfly64.proofs.LaneOps.{scaled_of_parts}
use Rattle.fixed_complex.proofs.Numbers.{numbers_wider, within_eight}
use Rattle.butterfly64.proofs.lanes.scaled_lanes.Goals as goal

pub differences-requires-clause-x : goal.differences-requires-clause-x
differences-requires-clause-x c = numbers_wider (2 ^ 60) (2 ^ 62 - 1) _ (omega arith) c.products.ensures.bound

pub differences-requires-clause-y : goal.differences-requires-clause-y
differences-requires-clause-y c = numbers_wider (2 ^ 60) (2 ^ 62 - 1) _ (omega arith) c.products-2.ensures.bound

pub sums-requires-clause-x : goal.sums-requires-clause-x
sums-requires-clause-x c = numbers_wider (2 ^ 60) (2 ^ 62 - 1) _ (omega arith) c.products-3.ensures.bound

pub sums-requires-clause-y : goal.sums-requires-clause-y
sums-requires-clause-y c = numbers_wider (2 ^ 60) (2 ^ 62 - 1) _ (omega arith) c.products-4.ensures.bound

pub rounded-requires : goal.rounded-requires
rounded-requires c = within_eight (2 ^ 61) c.differences.result (search rules) (λ l h. rw (c.differences.ensures l h)
    (omega (arith, unsigned_abs-difference (number_at c.products.result l) (number_at c.products-2.result l), c.products.ensures.bound l, c.products-2.ensures.bound l)))

pub rounded-requires-2 : goal.rounded-requires-2
rounded-requires-2 c = within_eight (2 ^ 61) c.sums.result (search rules) (λ l h. rw (c.sums.ensures l h)
    (omega (arith, unsigned_abs-sum (number_at c.products-3.result l) (number_at c.products-4.result l), c.products-3.ensures.bound l, c.products-4.ensures.bound l)))

pub returns-clause-value : goal.returns-clause-value
returns-clause-value c = λ l h.
    scaled_of_parts (lane c.args.w.now l) (lane c.args.z.now l) (number_at c.products.result l) (number_at c.products-2.result l) (number_at c.products-3.result l) (number_at c.products-4.result l) (number_at c.rounded.result l) (number_at c.rounded-2.result l)
    (c.products.ensures.value l h) (c.products-2.ensures.value l h) (c.products-3.ensures.value l h) (c.products-4.ensures.value l h)
    (rw (c.differences.ensures l h) at (c.rounded.ensures.value l h)) (rw (c.sums.ensures l h) at (c.rounded-2.ensures.value l h))

pub returns-clause-bound : goal.returns-clause-bound
returns-clause-bound c = record { each = λ l h. record { re = c.rounded.ensures.bound l; im = c.rounded-2.ensures.bound l } }
