-- The types in memory, as the contracts see them.
use Rattle.std.specs.Prelude.{map, Option, Some, None, Result, Ok, Err}
use Rattle.capture.specs.Records.{Captured, Whole}
use Rattle.capture.specs.declared.pcap.fault.Fault.{Fault}
use Rattle.capture.specs.declared.pcap.fault.ReadError.{ReadError}
use Rattle.capture.specs.declared.pcap.fault.ReadError.TheVariants as errors
use Rattle.capture.specs.declared.pcap.reader.Record.{Record}
use Rattle.capture.specs.declared.pcap.reader.Capture.{Capture}

abbrev pub captured : Record → Captured
captured r = record { seconds = r.seconds; fraction = r.fraction; original = r.original_len; bytes = r.bytes.now }

-- the result of a step
abbrev pub stepped : Result (Option Record) Fault → Result (Option Captured) Fault
stepped (Ok None) = Ok None
stepped (Ok (Some r)) = Ok (Some (captured r))
stepped (Err f) = Err f

abbrev pub whole : Capture → Whole
whole c = record { header = c.header; records = map captured c.records.items }

-- the result satisfies this, unless memory ran out
abbrev pub ReturnsUnlessMemory : Result Capture ReadError → (Result Whole Fault → Type 0) → Type 0
ReturnsUnlessMemory (Ok c) P = P (Ok (whole c))
ReturnsUnlessMemory (Err errors.Memory) P = Unit {0}
ReturnsUnlessMemory (Err (errors.Fault f)) P = P (Err f)
