use Rattle.std.proofs.Common.{◌≡◌, ◌≢◌, ◌<◌, ◌∙◌, sym, length, arith, get_or-set_same, get_or-set_other, length-set, below_more}
use Rattle.std.proofs.lemmas.List.{ext_get_or}
use Rattle.std.proofs.lemmas.List.FromFn.{length-map-range_with_len, get_or-map-range_with_len}
use Rattle.fixed_complex.specs.Pairs.{zero_pair}
use Rattle.symbol_builder.specs.Points.{point_at, points_of}
use Rattle.symbol_builder.proofs.Fronts.{group_is, points_of_front}
use Rattle.symbol_builder.proofs.symbol_points.Goals as goal

pub loop-d-preserved : goal.loop-d-preserved
loop-d-preserved c =
    let before = c.loop-d.invariant in
    let here : c.loop-d.d < length c.loop-d.points = omega (arith, before.long) in
    record {
      points =
          below_more _ _
          (λ k lt. let other : k ≢ c.loop-d.d = omega arith in rw get_or-set_other (before.points k lt))
          (rw get_or-set_same (c.carrier_point.ensures.point ∙ group_is c.args.modulation c.args.bits.now c.bits_per_carrier-width.result c.loop-d.d c.bits_per_carrier-width.ensures.value));
      within =
          below_more _ _
          (λ k lt. let other : k ≢ c.loop-d.d = omega arith in rw get_or-set_other (before.within k lt))
          (rw get_or-set_same c.carrier_point.ensures.within);
      long = length-set c.loop-d.points c.loop-d.d c.carrier_point.result ∙ before.long;
    }

points : (c : goal.After-loop-d) → c.loop-d.points ≡ points_of c.args.modulation c.args.bits.now
unfolding points_of
points c =
    let of_place = point_at c.args.modulation c.args.bits.now in
    let long = length-map-range_with_len of_place 0 48 in
    ext_get_or zero_pair _ _ (c.loop-d.invariant.long ∙ sym long) (λ k lt. c.loop-d.invariant.points k (omega arith) ∙ sym (get_or-map-range_with_len of_place 0 48 k k zero_pair (omega arith) (omega arith)))

pub returns-clause-points : goal.returns-clause-points
returns-clause-points c = points c

pub returns-clause-of_symbol : goal.returns-clause-of_symbol
returns-clause-of_symbol c = λ rate e. points c ∙ points_of_front c.args.modulation c.args.bits.now rate e

pub returns-clause-within : goal.returns-clause-within
returns-clause-within c = record { each = λ k lt. c.loop-d.invariant.within k (omega arith) }
