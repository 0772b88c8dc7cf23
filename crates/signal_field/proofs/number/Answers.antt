use Rattle.std.proofs.Common.{◌≡◌, ◌-◌, suc, length, ap, sym, arith}
use Rattle.std.proofs.Math.Seq.{drop-length}
use Rattle.signal_field.specs.Headers.{number_of_bits}
use Rattle.signal_field.proofs.Numbers.{below_more, number_from}
use Rattle.signal_field.proofs.number.Goals as goal

pub loop-k-init : goal.loop-k-init
unfolding number_of_bits
loop-k-init c = record {
  value = sym (ap number_of_bits (drop-length c.args.bits.now));
  below = let none : length c.args.bits.now - length c.args.bits.now ≡ 0 = omega arith in rw none (omega arith);
}

pub loop-k-preserved : goal.loop-k-preserved
loop-k-preserved c =
    let bits = c.args.bits.now in
    let some = c.loop-k-test.true in
    let next : suc (c.loop-k.k - 1) ≡ c.loop-k.k = omega arith in
    let bit = c.requires.bits (c.loop-k.k - 1) 0 (omega arith) in
    record {
      value =
          let front = rw next at (number_from bits (c.loop-k.k - 1) (omega arith)) in
          omega (arith, front, c.from.ensures, c.loop-k.invariant.value);
      below =
          below_more c.loop-k.number c.from.result (length bits - c.loop-k.k) (length bits - (c.loop-k.k - 1)) (omega (arith, bit, c.from.ensures)) c.loop-k.invariant.below (omega arith);
    }
