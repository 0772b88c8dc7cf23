use Rattle.std.proofs.Common.{SFits, w64, refl, rules}
use Rattle.std.proofs.lemmas.Int.{to_z-of_z}
use Rattle.constellations.specs.Points.{point_of}
use Rattle.constellations.proofs.carrier_point.Goals as goal

pub returns-in-Bpsk-clause-point : goal.returns-in-Bpsk-clause-point
unfolding point_of
returns-in-Bpsk-clause-point c =
    let i : SFits w64 c.axis.result = search rules in
    rw (to_z-of_z w64 _ i, c.axis.ensures.axis, c.in-Bpsk.is) refl

pub returns-in-Qpsk-clause-point : goal.returns-in-Qpsk-clause-point
unfolding point_of
returns-in-Qpsk-clause-point c =
    let i : SFits w64 c.axis-in-Qpsk.result = search rules in
    let q : SFits w64 c.axis-in-Qpsk-2.result = search rules in
    rw (to_z-of_z w64 _ i, to_z-of_z w64 _ q, c.axis-in-Qpsk.ensures.axis, c.axis-in-Qpsk-2.ensures.axis, c.in-Qpsk.is) refl

pub returns-in-Qam16-clause-point : goal.returns-in-Qam16-clause-point
unfolding point_of
returns-in-Qam16-clause-point c =
    let i : SFits w64 c.axis-in-Qam16.result = search rules in
    let q : SFits w64 c.axis-in-Qam16-2.result = search rules in
    rw (to_z-of_z w64 _ i, to_z-of_z w64 _ q, c.axis-in-Qam16.ensures.axis, c.axis-in-Qam16-2.ensures.axis, c.in-Qam16.is) refl

pub returns-in-Qam64-clause-point : goal.returns-in-Qam64-clause-point
unfolding point_of
returns-in-Qam64-clause-point c =
    let i : SFits w64 c.axis-in-Qam64.result = search rules in
    let q : SFits w64 c.axis-in-Qam64-2.result = search rules in
    rw (to_z-of_z w64 _ i, to_z-of_z w64 _ q, c.axis-in-Qam64.ensures.axis, c.axis-in-Qam64-2.ensures.axis, c.in-Qam64.is) refl
