use Rattle.std.proofs.Common.{◌+◌, ◌-◌, ◌^◌, rules, arith}
use Rattle.butterfly64.specs.Rows.{row_lane}
use Rattle.butterfly64.proofs.RowLanes.{plain-sum, row-re, row-im}
use Rattle.butterfly64.proofs.rows.sum_row.Goals as goal

pub word_sums-requires-clause-x : goal.word_sums-requires-clause-x
word_sums-requires-clause-x c = row-re (2 ^ 29 + 2 ^ 14) (2 ^ 30 - 1) c.args.x.now (search rules) (omega arith) c.requires.x

pub word_sums-requires-clause-y : goal.word_sums-requires-clause-y
word_sums-requires-clause-y c = row-re (2 ^ 29 + 2 ^ 14) (2 ^ 30 - 1) c.args.y.now (search rules) (omega arith) c.requires.y

pub word_sums-requires-2-clause-x : goal.word_sums-requires-2-clause-x
word_sums-requires-2-clause-x c = row-im (2 ^ 29 + 2 ^ 14) (2 ^ 30 - 1) c.args.x.now (search rules) (omega arith) c.requires.x

pub word_sums-requires-2-clause-y : goal.word_sums-requires-2-clause-y
word_sums-requires-2-clause-y c = row-im (2 ^ 29 + 2 ^ 14) (2 ^ 30 - 1) c.args.y.now (search rules) (omega arith) c.requires.y

pub returns : goal.returns
returns c = λ l lt. plain-sum (row_lane c.args.x.now l) (row_lane c.args.y.now l) _ _ (c.word_sums.ensures l lt) (c.word_sums-2.ensures l lt)
