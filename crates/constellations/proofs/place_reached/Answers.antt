use Rattle.std.proofs.Common.{inl, inr, w64}
use Rattle.std.proofs.lemmas.Int.{to_z-of_z}
use Rattle.constellations.proofs.Thresholds.{bpsk, qam16, qam64, qpsk}
use Rattle.constellations.proofs.place_reached.Goals as goal

pub returns-in-Bpsk-clause-place : goal.returns-in-Bpsk-clause-place
returns-in-Bpsk-clause-place c =
    let part = to_z-of_z w64 c.args.part c.ranges.part in
    let m = to_z-of_z w64 c.args.m c.ranges.m in
    let reached = rw (part, m) at c.above.ensures.value in
    elim c.in-Bpsk.is [
      | inl is ↦ rw is (bpsk c.args.part c.args.m c.above.result reached)
      | inr is ↦ rw is (qpsk c.args.part c.args.m c.above.result reached)
    ]

pub returns-in-Qam16-clause-place : goal.returns-in-Qam16-clause-place
returns-in-Qam16-clause-place c =
    let part = to_z-of_z w64 c.args.part c.ranges.part in
    let m = to_z-of_z w64 c.args.m c.ranges.m in
    rw c.in-Qam16.is
    (qam16 c.args.part c.args.m c.above-in-Qam16.result c.above-in-Qam16-2.result c.above-in-Qam16-3.result (rw (part, m) at c.above-in-Qam16.ensures.value) (rw (part, m) at c.above-in-Qam16-2.ensures.value)
    (rw (part, m) at c.above-in-Qam16-3.ensures.value))

pub returns-in-Qam64-clause-place : goal.returns-in-Qam64-clause-place
returns-in-Qam64-clause-place c =
    let part = to_z-of_z w64 c.args.part c.ranges.part in
    let m = to_z-of_z w64 c.args.m c.ranges.m in
    rw c.in-Qam64.is
    (qam64 c.args.part c.args.m c.above-in-Qam64.result c.above-in-Qam64-2.result c.above-in-Qam64-3.result c.above-in-Qam64-7.result c.above-in-Qam64-4.result c.above-in-Qam64-5.result c.above-in-Qam64-6.result
    (rw (part, m) at c.above-in-Qam64.ensures.value) (rw (part, m) at c.above-in-Qam64-2.ensures.value) (rw (part, m) at c.above-in-Qam64-3.ensures.value) (rw (part, m) at c.above-in-Qam64-7.ensures.value)
    (rw (part, m) at c.above-in-Qam64-4.ensures.value) (rw (part, m) at c.above-in-Qam64-5.ensures.value) (rw (part, m) at c.above-in-Qam64-6.ensures.value))
