use Rattle.std.proofs.Common.{◌<◌, slice_index, refl, arith}
use Rattle.bit_lists.proofs.ByPlace.{slice_index-zeros, take-by_place}
use Rattle.rate_table.specs.Table.{row_of}
use Rattle.rate_table.proofs.ByRate.{coded_bits-le}
use Rattle.interleave_two.specs.Place.{interleaved_place}
use Rattle.interleave_two.proofs.Ways.{interleaved_place-lt}
use Rattle.interleave_two.proofs.ByPlace.{interleaved-by_place, interleaved-deinterleaved, AreBits-by_place, deinterleaved-take}
use Rattle.interleave_two.proofs.deinterleave.Goals as goal

pub loop-k-init : goal.loop-k-init
loop-k-init c = record {
  long = refl;
  read = λ m below. absurd (omega arith);
  rest = λ m _. slice_index-zeros 288 m;
}

pub bounds-bits-from : goal.bounds-bits-from
bounds-bits-from c =
    let below : c.loop-k.k < (row_of c.args.rate).coded_bits = omega (arith, c.coded_bits-k-end.ensures) in
    omega (arith, c.from.ensures, c.places_in_order-places.ensures.places c.loop-k.k below, interleaved_place-lt c.args.rate c.loop-k.k below, coded_bits-le c.args.rate)

pub returns-clause-by_place : goal.returns-clause-by_place
returns-clause-by_place c k below =
    let in_range : k < c.loop-k.k = omega (arith, c.coded_bits-k-end.ensures) in c.loop-k.invariant.read k in_range

pub returns-clause-list : goal.returns-clause-list
returns-clause-list c =
    take-by_place (λ k. slice_index c.args.bits.now (interleaved_place c.args.rate k)) (row_of c.args.rate).coded_bits c.loop-k.order
    (omega (arith, coded_bits-le c.args.rate, c.loop-k.invariant.long))
    (returns-clause-by_place c)

pub returns-clause-bits : goal.returns-clause-bits
returns-clause-bits c =
    AreBits-by_place c.args.bits.now (interleaved_place c.args.rate) c.loop-k.k c.loop-k.order c.requires c.loop-k.invariant.read c.loop-k.invariant.rest

pub returns-clause-undone : goal.returns-clause-undone
returns-clause-undone c =
    interleaved-by_place c.args.rate c.args.bits.now c.loop-k.order (omega (arith, coded_bits-le c.args.rate)) (returns-clause-by_place c)

pub returns-clause-law : goal.returns-clause-law
returns-clause-law c = interleaved-deinterleaved c.args.rate c.args.bits.now (omega (arith, coded_bits-le c.args.rate))

pub returns-clause-front : goal.returns-clause-front
returns-clause-front c = deinterleaved-take c.args.rate c.args.bits.now
