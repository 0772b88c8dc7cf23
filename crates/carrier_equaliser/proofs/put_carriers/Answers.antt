use Rattle.std.proofs.Common.{◌≡◌, ◌≢◌, ◌+◌, ◌*◌, ◌<◌, length, get_or-set_same, get_or-set_other, length-set, below_more, ap, ◌∙◌, w32, w64, to_z, of_z, rules, arith}
use Rattle.std.proofs.lemmas.Int.{ints, to_z-of_z}
use Rattle.fixed_complex.specs.Rounding.{half_up}
use Rattle.butterfly64.specs.Rows.{row_lane}
use Rattle.carrier_equaliser.proofs.put_carriers.Goals as goal

pub loop-l-preserved : goal.loop-l-preserved
loop-l-preserved c =
    let r = c.args.r in
    let lane = c.loop-l.l in
    let so_far = c.loop-l.invariant in
    let here : 8 * r + lane < length c.loop-l.carriers = omega (arith, so_far.long) in
    let within = c.requires.words lane c.loop-l-test.true in
    let x = row_lane c.args.sums.now lane in
    let re_word : to_z w32 (of_z w32 x.re) ≡ x.re = omega (arith, ints, within.re) in
    let im_word : to_z w32 (of_z w32 x.im) ≡ x.im = omega (arith, ints, within.im) in
    let re = to_z-of_z w64 c.over_2_8.result (search rules) ∙ c.over_2_8.ensures ∙ ap (half_up 8) re_word in
    let im = to_z-of_z w64 c.over_2_8-in-loop-l.result (search rules) ∙ c.over_2_8-in-loop-l.ensures ∙ ap (half_up 8) im_word in
    record {
      long = rw length-set so_far.long;
      put =
          below_more _ _
          (λ k lt. let other : 8 * r + k ≢ 8 * r + lane = omega arith in rw get_or-set_other (so_far.put k lt))
          (rw get_or-set_same (λ t. record { re = re t; im = im t }));
      before = λ n lt. let other : n ≢ 8 * r + lane = omega arith in rw get_or-set_other (so_far.before n lt);
    }
