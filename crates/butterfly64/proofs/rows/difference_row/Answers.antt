use Rattle.std.proofs.Common.{ℕ, ◌+◌, ◌-◌, ◌^◌, ◌<◌, rules, arith}
use Rattle.butterfly64.specs.Rows.{row_lane}
use Rattle.butterfly64.proofs.RowLanes.{difference-size, plain-difference, row-re, row-im}
use Rattle.butterfly64.proofs.rows.difference_row.Goals as goal

pub word_differences-requires-clause-x : goal.word_differences-requires-clause-x
word_differences-requires-clause-x c = row-re (2 ^ 29 + 2 ^ 14) (2 ^ 30 - 1) c.args.x.now (search rules) (omega arith) c.requires.x

pub word_differences-requires-clause-y : goal.word_differences-requires-clause-y
word_differences-requires-clause-y c = row-re (2 ^ 29 + 2 ^ 14) (2 ^ 30 - 1) c.args.y.now (search rules) (omega arith) c.requires.y

pub word_differences-requires-2-clause-x : goal.word_differences-requires-2-clause-x
word_differences-requires-2-clause-x c = row-im (2 ^ 29 + 2 ^ 14) (2 ^ 30 - 1) c.args.x.now (search rules) (omega arith) c.requires.x

pub word_differences-requires-2-clause-y : goal.word_differences-requires-2-clause-y
word_differences-requires-2-clause-y c = row-im (2 ^ 29 + 2 ^ 14) (2 ^ 30 - 1) c.args.y.now (search rules) (omega arith) c.requires.y

pub returns : goal.returns
returns c =
    let difference = λ (l : ℕ) (lt : l < 8). plain-difference (row_lane c.args.x.now l) (row_lane c.args.y.now l) _ _ (c.word_differences.ensures l lt) (c.word_differences-2.ensures l lt) in
    record {
      value = difference;
      size = record { each = λ l lt. difference-size (row_lane c.args.x.now l) (row_lane c.args.y.now l) _ (difference l lt) (c.requires.x.each l lt) (c.requires.y.each l lt) };
    }
