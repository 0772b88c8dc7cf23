use Rattle.std.proofs.Common.{◌+◌, ◌*◌, refl, length-set}
use Rattle.fixed_complex.specs.PairLists.{by_256, entry}
use Rattle.fixed_complex.proofs.PairLists.{everywhere_within}
use Rattle.butterfly64.proofs.RowPlaces.{row_more}
use Rattle.plain_waves.proofs.Parts.{word_256}
use Rattle.plain_waves.proofs.row_by_256.Goals as goal

pub loop-l-preserved : goal.loop-l-preserved
loop-l-preserved c =
    let xs = c.args.carriers.now in
    let place = 8 * c.args.r + c.loop-l.l in
    let within = everywhere_within 954 xs c.requires.carriers place in
    let re = word_256 (entry xs place).re c.word_by_256.result within.re c.word_by_256.ensures in
    let im = word_256 (entry xs place).im c.word_by_256-in-loop-l.result within.im c.word_by_256-in-loop-l.ensures in
    record {
      re_long = rw length-set c.loop-l.invariant.re_long;
      im_long = rw length-set c.loop-l.invariant.im_long;
      done = row_more (by_256 (entry xs)) (8 * c.args.r) c.loop-l.l (c.loop-l.l + 1) c.loop-l.row _ _ refl c.loop-l-test.true c.loop-l.invariant.re_long c.loop-l.invariant.im_long re im c.loop-l.invariant.done;
    }
