use Rattle.std.proofs.Common.{◌≡◌, ◌^◌, refl, ap, ◌∙◌, sym, arith}
use Rattle.carrier_bins.specs.Carriers.{bin_of}
use Rattle.fixed_complex.proofs.Pairs.{same_parts}
use Rattle.fixed_complex.specs.PairLists.{entry}
use Rattle.fixed_complex.specs.Pairs.{squared_size}
use Rattle.pilot_turns.specs.Pilots.{pilot_bin}
use Rattle.pilot_turns.proofs.Parts.{carrier_is, part_is}
use Rattle.fixed_complex.proofs.Sums.{sum-more, sum-none, within-more}
use Rattle.pilot_turns.proofs.Sums.{no_turn, some_turn, weight_more}
use Rattle.pilot_turns.proofs.pilots.pilot_turn.Goals as goal

pub loop-k-init : goal.loop-k-init
loop-k-init c = record {
  back = sum-none _;
  within = record { re = omega arith; im = omega arith };
  weight = refl;
  most = omega arith;
}

pub loop-k-preserved : goal.loop-k-preserved
loop-k-preserved c =
    let estimate = c.args.estimate.now in
    let k = c.loop-k.k in
    let carrier = carrier_is k c.carrier.result c.loop-k-test.true c.carrier.ensures in
    let channel : c.at.result ≡ entry estimate (pilot_bin k) = c.at.ensures.value ∙ ap (λ z. entry estimate (bin_of z)) carrier in
    let square : c.size_squared-weight.result ≡ squared_size (entry estimate (pilot_bin k)) = c.size_squared-weight.ensures.value ∙ ap squared_size channel in
    record {
      back = sum-more _ k c.loop-k.sum c.add-sum.result c.pilot.result c.loop-k.invariant.back c.pilot.ensures.back c.add-sum.ensures;
      within = rw c.add-sum.ensures (within-more (2 ^ 46) k c.loop-k.sum c.pilot.result c.loop-k.invariant.within c.pilot.ensures.within);
      weight = weight_more estimate k c.loop-k.weight c.size_squared-weight.result c.loop-k.invariant.weight square;
      most = let m = c.loop-k.invariant.most in let q = c.size_squared-weight.ensures.most in omega (arith, m, q);
    }

-- the weight and the sum of all four
pub returns-then-weight-eq0-clause-turn : goal.returns-then-weight-eq0-clause-turn
returns-then-weight-eq0-clause-turn c =
    let all : c.loop-k.k ≡ 4 = omega arith in
    let weight = rw all at c.loop-k.invariant.weight in
    no_turn c.args.estimate.now c.args.symbol.now c.args.n (sym weight ∙ c.if-weight-eq0.true)

pub returns-clause-turn : goal.returns-clause-turn
returns-clause-turn c =
    let all : c.loop-k.k ≡ 4 = omega arith in
    let weight = rw all at c.loop-k.invariant.weight in
    let sum = rw all at c.loop-k.invariant.back in
    let small = c.loop-k.invariant.within in
    let re = part_is c.turn_part.result c.loop-k.weight c.loop-k.sum.re (omega (arith, small.re, all)) c.turn_part.ensures.within c.turn_part.ensures.value in
    let im = part_is c.turn_part-2.result c.loop-k.weight c.loop-k.sum.im (omega (arith, small.im, all)) c.turn_part-2.ensures.within c.turn_part-2.ensures.value in
    same_parts _ _ re im ∙ some_turn c.args.estimate.now c.args.symbol.now c.args.n c.loop-k.weight c.loop-k.sum weight sum c.if-weight-eq0.false
