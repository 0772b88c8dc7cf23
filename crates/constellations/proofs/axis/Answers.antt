use Rattle.constellations.proofs.AxisTables.{axis_bpsk, axis_qpsk, axis_16, axis_64}
use Rattle.constellations.proofs.axis.Goals as goal

pub returns-in-Bpsk-clause-axis : goal.returns-in-Bpsk-clause-axis
returns-in-Bpsk-clause-axis c =
    rw c.in-Bpsk.is (axis_bpsk c.args.bits.now c.from.result c.requires.bits (rw c.in-Bpsk.is at c.requires.width) c.from.ensures)

pub returns-in-Qpsk-clause-axis : goal.returns-in-Qpsk-clause-axis
returns-in-Qpsk-clause-axis c =
    rw c.in-Qpsk.is (axis_qpsk c.args.bits.now c.from-in-Qpsk.result c.requires.bits (rw c.in-Qpsk.is at c.requires.width) c.from-in-Qpsk.ensures)

pub returns-in-Qam16-clause-axis : goal.returns-in-Qam16-clause-axis
returns-in-Qam16-clause-axis c =
    rw c.in-Qam16.is (axis_16 c.args.bits.now c.from-in-Qam16.result c.requires.bits (rw c.in-Qam16.is at c.requires.width) c.from-in-Qam16.ensures)

pub returns-in-Qam64-clause-axis : goal.returns-in-Qam64-clause-axis
returns-in-Qam64-clause-axis c =
    rw c.in-Qam64.is (axis_64 c.args.bits.now c.from-in-Qam64.result c.requires.bits (rw c.in-Qam64.is at c.requires.width) c.from-in-Qam64.ensures)
