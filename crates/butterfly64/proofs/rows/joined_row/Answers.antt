use Rattle.std.proofs.Common.{◌-◌, ◌^◌, rules, arith}
use Rattle.butterfly64.proofs.RowLanes.{plain-difference, plain-sum, row-re, row-im}
use Rattle.butterfly64.specs.Rows.{row_lane}
use Rattle.butterfly64.proofs.rows.joined_row.Goals as goal

pub word_sums-requires-clause-x : goal.word_sums-requires-clause-x
word_sums-requires-clause-x c = row-re (2 ^ 30 - 2 ^ 12) (2 ^ 30 - 1) c.args.even.now (search rules) (omega arith) c.requires.even

pub word_sums-requires-2-clause-x : goal.word_sums-requires-2-clause-x
word_sums-requires-2-clause-x c = row-im (2 ^ 30 - 2 ^ 12) (2 ^ 30 - 1) c.args.even.now (search rules) (omega arith) c.requires.even

pub word_differences-requires-clause-x : goal.word_differences-requires-clause-x
word_differences-requires-clause-x c = row-re (2 ^ 30 - 2 ^ 12) (2 ^ 30 - 1) c.args.even.now (search rules) (omega arith) c.requires.even

pub word_differences-requires-2-clause-x : goal.word_differences-requires-2-clause-x
word_differences-requires-2-clause-x c = row-im (2 ^ 30 - 2 ^ 12) (2 ^ 30 - 1) c.args.even.now (search rules) (omega arith) c.requires.even

pub returns : goal.returns
returns c = record {
  sums = λ l lt. plain-sum (row_lane c.args.even.now l) (row_lane c.args.turned.now l) _ _ (c.word_sums.ensures l lt) (c.word_sums-2.ensures l lt);
  differences = λ l lt. plain-difference (row_lane c.args.even.now l) (row_lane c.args.turned.now l) _ _ (c.word_differences.ensures l lt) (c.word_differences-2.ensures l lt);
}
