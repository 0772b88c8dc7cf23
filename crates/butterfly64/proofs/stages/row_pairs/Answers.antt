use Rattle.std.proofs.Common.{◌^◌, ◌+◌, ◌*◌, ◌∙◌}
use Rattle.fixed_complex.specs.PairLists.{entry}
use Rattle.butterfly64.specs.Rows.{place_in}
use Rattle.butterfly64.proofs.RowPlaces.{lane_is, one_row_more, row_of_size}
use Rattle.butterfly64.proofs.stages.row_pairs.Goals as goal

pub put_row-requires-clause-sizes : goal.put_row-requires-clause-sizes
put_row-requires-clause-sizes c = row_of_size (65 * 2 ^ 24 + 256) c.args.x.now c.loop-r.r c.loop-r-test.true c.requires

pub loop-r-preserved : goal.loop-r-preserved
loop-r-preserved c =
    let x = c.args.x.now in
    let r = c.loop-r.r in
    record {
      long = c.put_row.array_long;
      done =
          one_row_more (place_in x) (entry c.loop-r.pairs) (entry c.put_row.new.pairs) r c.loop-r.invariant.done c.put_row.ensures.before
          (λ l lt. c.put_row.ensures.put l lt ∙ lane_is x r l lt);
    }
