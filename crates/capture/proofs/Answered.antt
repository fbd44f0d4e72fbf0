-- A file reads as what `read` returns, and in no other way.
use Rattle.std.proofs.Common.{◌≡◌, ℕ, List, Result, Ok, Err}
use Rattle.capture.specs.Records.{Whole, Reads}
use Rattle.capture.specs.Seen.{whole, ReturnsUnlessMemory}
use Rattle.capture.specs.declared.pcap.fault.Fault.{Fault}
use Rattle.capture.specs.declared.pcap.fault.ReadError.{ReadError}
use Rattle.capture.specs.declared.pcap.fault.ReadError.TheVariants as errors
use Rattle.capture.specs.declared.pcap.reader.Capture.{Capture}
use Rattle.capture.proofs.Unique.{same_reading}

pub only_one : (file : List ℕ) (answer : Result Capture ReadError) → ReturnsUnlessMemory answer (Reads file)
    → (outcome : Result Whole Fault) → Reads file outcome → ReturnsUnlessMemory answer (λ a. a ≡ outcome)
only_one file (Ok c) h outcome r = same_reading file (Ok (whole c)) outcome h r
only_one file (Err errors.Memory) h outcome r = tt
only_one file (Err (errors.Fault f)) h outcome r = same_reading file (Err f) outcome h r
