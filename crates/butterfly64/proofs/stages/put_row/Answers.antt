use Rattle.std.proofs.Common.{◌≡◌, ◌≢◌, ◌+◌, ◌-◌, ◌*◌, ◌^◌, ◌<◌, length, get_or-set_same, get_or-set_other, length-set, below_more, ap, ◌∙◌, w64, to_z, of_z, rules, arith}
use Rattle.std.proofs.lemmas.Int.{ints}
use Rattle.fixed_complex.specs.Numbers.{number_at}
use Rattle.fixed_complex.proofs.PairSizes.{within-size}
use Rattle.butterfly64.specs.Rows.{row_lane}
use Rattle.butterfly64.proofs.RowLanes.{row-im, row-re}
use Rattle.butterfly64.proofs.stages.put_row.Goals as goal

pub widened-re-requires : goal.widened-re-requires
widened-re-requires c = row-re (65 * 2 ^ 24 + 256) (2 ^ 31 - 1) c.args.row.now (search rules) (omega arith) c.requires.sizes

pub widened-im-requires : goal.widened-im-requires
widened-im-requires c = row-im (65 * 2 ^ 24 + 256) (2 ^ 31 - 1) c.args.row.now (search rules) (omega arith) c.requires.sizes

pub loop-l-preserved : goal.loop-l-preserved
loop-l-preserved c =
    let r = c.args.r in
    let lane = c.loop-l.l in
    let so_far = c.loop-l.invariant in
    let here : 8 * r + lane < length c.loop-l.pairs = omega (arith, so_far.long) in
    let x = row_lane c.args.row.now lane in
    let within = within-size (65 * 2 ^ 24 + 256) x (c.requires.sizes.each lane c.loop-l-test.true) in
    let re_word : to_z w64 (of_z w64 x.re) ≡ x.re = omega (arith, ints, within.re) in
    let im_word : to_z w64 (of_z w64 x.im) ≡ x.im = omega (arith, ints, within.im) in
    let re = ap (λ w. to_z w64 (of_z w64 (number_at w lane))) c.widened-re.ensures ∙ re_word in
    let im = ap (λ w. to_z w64 (of_z w64 (number_at w lane))) c.widened-im.ensures ∙ im_word in
    record {
      long = rw length-set so_far.long;
      put =
          below_more _ _
          (λ k lt. let other : 8 * r + k ≢ 8 * r + lane = omega arith in rw get_or-set_other (so_far.put k lt))
          (rw get_or-set_same (λ i. record { re = re i; im = im i }));
      before = λ n lt. let other : n ≢ 8 * r + lane = omega arith in rw get_or-set_other (so_far.before n lt);
    }
