use Rattle.std.proofs.Common.{refl, length-set, below_more, ◌∙◌, w32, rules}
use Rattle.std.proofs.lemmas.Int.{to_z-of_z}
use Rattle.fixed_complex.specs.PairLists.{by_256}
use Rattle.fixed_complex.specs.Samples.{pair_at}
use Rattle.butterfly64.proofs.RowPlaces.{row_more}
use Rattle.carrier_equaliser.proofs.row_by_256.Goals as goal

pub loop-l-preserved : goal.loop-l-preserved
loop-l-preserved c =
    let so_far = c.loop-l.invariant in
    let sample = c.times_256-re in
    let re = to_z-of_z w32 sample.result.0 (search rules) ∙ sample.ensures.re in
    let im = to_z-of_z w32 sample.result.1 (search rules) ∙ sample.ensures.im in
    record {
      re_long = rw length-set so_far.re_long;
      im_long = rw length-set so_far.im_long;
      done = row_more (by_256 (pair_at c.args.samples.now)) c.args.place c.loop-l.l _ c.loop-l.row _ _ refl c.loop-l-test.true so_far.re_long so_far.im_long re im so_far.done;
      of_16_bits = below_more _ _ so_far.of_16_bits sample.ensures.of_16_bits;
    }
