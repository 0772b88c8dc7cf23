-- The fault of a capture without a whole frame (own).
use Rattle.std.specs.Prelude.{Option, Some, None}
use Rattle.frame_findings.specs.declared.Cut.{Cut}
use Rattle.frame_receiver.specs.declared.reception.ReceiveFault.{ReceiveFault}
use Rattle.frame_receiver.specs.declared.reception.ReceiveFault.TheVariants.{CutFrame, NoFrame}

abbrev pub fault_of : Option Cut → ReceiveFault
fault_of None = NoFrame
fault_of (Some cut) = CutFrame cut.start cut.have cut.need
