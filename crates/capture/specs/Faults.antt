-- Faults of either format, as the reader names them (this project's own).
use Rattle.std.specs.Prelude.{ℕ}
use Rattle.capture.specs.declared.pcap.fault.Fault as classic
use Rattle.capture.specs.declared.pcapng.fault.Fault as blocks
use Rattle.capture.specs.declared.fault.FaultAt.{FaultAt}
use Rattle.capture.specs.declared.fault.Why.{Why}
use Rattle.capture.specs.declared.fault.Why.TheVariants.{Classic, Block}

abbrev pub fault_at : Why → ℕ → FaultAt
fault_at why at = record { why = why; at = at }

abbrev pub classic_fault_at : classic.Fault → FaultAt
classic_fault_at f = fault_at (Classic f.why) f.offset

abbrev pub block_fault_at : blocks.Fault → FaultAt
block_fault_at f = fault_at (Block f.why) f.offset
