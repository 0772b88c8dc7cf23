use Rattle.std.proofs.Common.{◌≡◌, ◌≢◌, ◌+◌, ◌-◌, ◌*◌, ◌<◌, ◌∙◌, sym, ap, length, map, take, drop, slice_index, arith, get_or-set_same, get_or-set_other, length-set, below_more}
use Rattle.std.proofs.lemmas.List.{ext_get_or, length-drop, length-take-le}
use Rattle.std.proofs.lemmas.List.FromFn.{length-map-range_with_len, get_or-map-range_with_len}
use Rattle.fixed_complex.specs.Pairs.{zero_pair}
use Rattle.symbol_builder.specs.Points.{point_at, points_of}
use Rattle.symbol_builder.proofs.CodePoints.{point_is}
use Rattle.symbol_builder.proofs.Fronts.{group_within}
use Rattle.symbol_builder.proofs.code_points.put_points.Goals as goal

pub loop-d-preserved : goal.loop-d-preserved
loop-d-preserved c =
    let before = c.loop-d.invariant in
    let d = c.loop-d.d in
    let width = c.bits_per_carrier-width.result in
    let here : d < length c.loop-d.points = omega (arith, before.long) in
    let within = group_within width d c.loop-d-test.true in
    let behind = drop (width * d) c.args.places.now in
    let all : length c.args.places.now ≡ 48 * width = c.requires.all ∙ ap (λ n. 48 * n) (sym c.bits_per_carrier-width.ensures.value) in
    let group : (width * d + width) - width * d ≡ width = omega arith in
    let long : length (take ((width * d + width) - width * d) behind) ≡ width =
    length-take-le ((width * d + width) - width * d) behind (omega (arith, length-drop (width * d) c.args.places.now)) ∙ group in
    record {
      points =
          below_more _ _
          (λ k lt. let other : k ≢ d = omega arith in rw get_or-set_other (before.points k lt))
          (rw get_or-set_same (c.carrier_point.ensures.point ∙ point_is c.args.modulation c.args.code.now c.args.places.now (take width c.bits_at-bits.result) width d c.bits_per_carrier-width.ensures.value (ap (λ n. take n c.bits_at-bits.result) (sym long) ∙ c.bits_at-bits.ensures.list)));
      within =
          below_more _ _
          (λ k lt. let other : k ≢ d = omega arith in rw get_or-set_other (before.within k lt))
          (rw get_or-set_same c.carrier_point.ensures.within);
      long = length-set c.loop-d.points d c.carrier_point.result ∙ before.long;
    }

pub returns-clause-points : goal.returns-clause-points
unfolding points_of
returns-clause-points c =
    let of_place = point_at c.args.modulation (map (slice_index c.args.code.now) c.args.places.now) in
    let long = length-map-range_with_len of_place 0 48 in
    ext_get_or zero_pair _ _ (c.loop-d.invariant.long ∙ sym long) (λ k lt. c.loop-d.invariant.points k (omega arith) ∙ sym (get_or-map-range_with_len of_place 0 48 k k zero_pair (omega arith) (omega arith)))
