use Rattle.std.proofs.Common.{◌<◌, slice_index, ap, ◌∙◌, refl, arith}
use Rattle.bit_lists.proofs.ByPlace.{slice_index-zeros, take-by_place}
use Rattle.rate_table.specs.Table.{row_of}
use Rattle.rate_table.proofs.ByRate.{coded_bits-le}
use Rattle.interleave_two.specs.Place.{interleaved_place, source_of}
use Rattle.interleave_two.proofs.Ways.{interleaved_place-lt, source_of-interleaved_place, source_of-lt}
use Rattle.interleave_two.proofs.ByPlace.{deinterleaved-by_place, deinterleaved-interleaved, AreBits-by_place, interleaved-take}
use Rattle.interleave_two.proofs.interleave.Goals as goal

pub loop-j-init : goal.loop-j-init
loop-j-init c = record {
  long = refl;
  read = λ m below. absurd (omega arith);
  rest = λ m _. slice_index-zeros 288 m;
}

pub bounds-bits-from : goal.bounds-bits-from
bounds-bits-from c =
    let below : c.loop-j.j < (row_of c.args.rate).coded_bits = omega (arith, c.coded_bits-j-end.ensures) in
    omega (arith, c.from.ensures, c.sources_in_order-sources.ensures.sources c.loop-j.j below, source_of-lt c.args.rate c.loop-j.j below, coded_bits-le c.args.rate)

pub returns-clause-by_place : goal.returns-clause-by_place
returns-clause-by_place c k below =
    let goes = interleaved_place-lt c.args.rate k below in
    let in_range : interleaved_place c.args.rate k < c.loop-j.j = omega (arith, c.coded_bits-j-end.ensures) in
    c.loop-j.invariant.read (interleaved_place c.args.rate k) in_range
    ∙ ap (slice_index c.args.bits.now) (source_of-interleaved_place c.args.rate k below)

pub returns-clause-list : goal.returns-clause-list
returns-clause-list c =
    let n = (row_of c.args.rate).coded_bits in
    take-by_place (λ j. slice_index c.args.bits.now (source_of c.args.rate j)) n c.loop-j.places
    (omega (arith, coded_bits-le c.args.rate, c.loop-j.invariant.long))
    (λ j below.
    let in_range : j < c.loop-j.j = omega (arith, c.coded_bits-j-end.ensures) in
    c.loop-j.invariant.read j in_range)

pub returns-clause-bits : goal.returns-clause-bits
returns-clause-bits c =
    AreBits-by_place c.args.bits.now (source_of c.args.rate) c.loop-j.j c.loop-j.places c.requires c.loop-j.invariant.read c.loop-j.invariant.rest

pub returns-clause-undone : goal.returns-clause-undone
returns-clause-undone c =
    deinterleaved-by_place c.args.rate c.args.bits.now c.loop-j.places (omega (arith, coded_bits-le c.args.rate)) (returns-clause-by_place c)

pub returns-clause-law : goal.returns-clause-law
returns-clause-law c = deinterleaved-interleaved c.args.rate c.args.bits.now (omega (arith, coded_bits-le c.args.rate))

pub returns-clause-front : goal.returns-clause-front
returns-clause-front c = interleaved-take c.args.rate c.args.bits.now
