use Rattle.std.proofs.Common.{◌∙◌, ◌^◌, rules}
use Rattle.fixed_complex.specs.PairLists.{entry}
use Rattle.fixed_complex.proofs.PairLists.{everywhere_of_size, is_by_place}
use Rattle.butterfly64.specs.Rows.{place_in}
use Rattle.butterfly64.specs.StagedSums.{down_at}
use Rattle.butterfly64.proofs.Halves.{down_at-local}
use Rattle.butterfly64.proofs.SumSizes.{words-down_sums}
use Rattle.butterfly64.proofs.down_words.Goals as goal

pub down_rows-requires : goal.down_rows-requires
down_rows-requires c = record {
  each = λ n lt. rw (c.rows_of-rows.ensures n lt) (everywhere_of_size (2 ^ 24) c.args.x.now c.requires n);
}

pub row_pairs-requires : goal.row_pairs-requires
row_pairs-requires c = c.down_rows.ensures.sizes

pub returns-clause-sums : goal.returns-clause-sums
returns-clause-sums c =
    let x = entry c.args.x.now in
    is_by_place (down_at 6 x) c.row_pairs.result (search rules)
    (λ n lt. c.row_pairs.ensures n lt ∙ c.down_rows.ensures.sums n lt ∙ down_at-local 6 (place_in c.rows_of-rows.result) x (λ m below. c.rows_of-rows.ensures m below) n)

pub returns-clause-within : goal.returns-clause-within
returns-clause-within c = rw (returns-clause-sums c) (words-down_sums c.args.x.now c.requires)
