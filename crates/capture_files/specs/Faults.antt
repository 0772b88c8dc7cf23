-- Why a capture was not read (own).
use Rattle.modem_ports.specs.declared.whole.ReadAllFault.{ReadAllFault}
use Rattle.modem_ports.specs.declared.whole.ReadAllFault.TheVariants as input
use Rattle.capture_files.specs.declared.CaptureFault.{CaptureFault}
use Rattle.capture_files.specs.declared.CaptureFault.TheVariants as capture

-- the fault of a capture whose bytes were not read whole
abbrev pub fault_of : ReadAllFault → CaptureFault
fault_of input.Long = capture.Long
fault_of input.Failed = capture.Failed
fault_of (input.NoMemory e) = capture.NoMemory e
