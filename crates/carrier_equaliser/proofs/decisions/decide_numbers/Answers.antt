use Rattle.std.proofs.Common.{◌≡◌, ◌*◌, ap, arith}
use Rattle.carrier_equaliser.proofs.Numbers.{decided_all, decided_more, decided_none}
use Rattle.carrier_equaliser.proofs.decisions.decide_numbers.Goals as goal

pub loop-number-init : goal.loop-number-init
loop-number-init c = decided_none c.args.modulation c.args.bins.now c.args.symbol.now

pub loop-number-preserved : goal.loop-number-preserved
loop-number-preserved c =
    let number = c.loop-number.number in
    let put = c.put_bits.ensures in
    let of_number = c.decided_number-bits.ensures in
    decided_more c.args.modulation c.args.bins.now c.args.symbol.now number _ c.loop-number.out c.put_bits.new.out c.decided_number-bits.result
    (ap (λ width. number * width) c.bits_per_carrier-width.ensures.value)
    (omega arith)
    put.bits
    (record { here = λ j lt. put.here j (omega (arith, lt)); before = put.before; behind = λ k past. put.behind k (omega (arith, past)) })
    (record { value = of_number.value; others = of_number.others })
    c.loop-number.invariant

pub returns-clause-list : goal.returns-clause-list
returns-clause-list c =
    let all : c.loop-number.number ≡ 48 = omega arith in
    decided_all c.args.modulation c.args.bins.now c.args.symbol.now c.loop-number.out (rw all at c.loop-number.invariant)
