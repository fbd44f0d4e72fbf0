-- Records, and the contents of a whole file.
use Rattle.std.specs.Prelude.{◌≡◌, ℕ, ◌+◌, ◌*◌, ◌^◌, ◌<◌, ◌⊎◌, List, [], ◌++◌, length, drop, Option, Some, None, Result, Ok, Err}
use Rattle.std.specs.Int.{w32}
use Rattle.std.specs.List.{flat_map, AllByRecursion}
use Rattle.capture.specs.File.{number, header_of}
use Rattle.capture.specs.declared.pcap.fault.Fault.{Fault}
use Rattle.capture.specs.declared.pcap.fault.Why.{Why}
use Rattle.capture.specs.declared.pcap.fault.Why.TheVariants.{RecordCut, BytesCut}
use Rattle.capture.specs.declared.pcap.header.Header.{Header}
use Rattle.capture.specs.declared.pcap.header.Order.{Order}
use Rattle.capture.specs.declared.pcap.header.Resolution.{Resolution}
use Rattle.capture.specs.declared.pcap.header.Resolution.TheVariants.{Microseconds, Nanoseconds}

-- a record: its time, the length of the packet, and the bytes that were captured of it
pub record Captured : Type 0 where
  pub seconds : ℕ
  pub fraction : ℕ
  pub original : ℕ
  pub bytes : List ℕ

-- the numbers of a record fit their fields
pub record FitsFields (r : Captured) : Type 0 where
  pub seconds : r.seconds < 2 ^ 32
  pub fraction : r.fraction < 2 ^ 32
  pub captured : length r.bytes < 2 ^ 32
  pub original : r.original < 2 ^ 32

-- the 16 bytes before a record's packet
abbrev pub record_header : Order → ℕ → ℕ → ℕ → ℕ → List ℕ
record_header o seconds fraction captured original =
    number o w32 seconds ++ number o w32 fraction ++ number o w32 captured ++ number o w32 original

-- a record in the file
abbrev pub record_bytes : Order → Captured → List ℕ
record_bytes o r = record_header o r.seconds r.fraction (length r.bytes) r.original ++ r.bytes

abbrev pub records_bytes : Order → List Captured → List ℕ
records_bytes o rs = flat_map (record_bytes o) rs

-- these bytes are these records
pub record AreRecords (o : Order) (bytes : List ℕ) (rs : List Captured) : Type 0 where
  pub fit : AllByRecursion FitsFields rs
  pub bytes_are : bytes ≡ records_bytes o rs

-- these bytes begin with a record's header, and then the file ends before the record does
pub record EndsEarly (o : Order) (bytes : List ℕ) : Type 0 where
  pub seconds : ℕ
  pub fraction : ℕ
  pub captured : ℕ
  pub original : ℕ
  pub rest : List ℕ
  pub bytes_are : bytes ≡ record_header o seconds fraction captured original ++ rest
  pub seconds_fit : seconds < 2 ^ 32
  pub fraction_fit : fraction < 2 ^ 32
  pub captured_fit : captured < 2 ^ 32
  pub original_fit : original < 2 ^ 32
  pub early : length rest < captured

-- these bytes aren't a record for this cause; the field that shows it is at this offset
abbrev pub IsCut : Why → Order → List ℕ → ℕ → Type 0
IsCut RecordCut o bytes at = (at ≡ 0) × (0 < length bytes) × (length bytes < 16)
IsCut BytesCut o bytes at = (at ≡ 8) × EndsEarly o bytes
IsCut _ o bytes at = ⊥

-- ---- a reader, and its steps

-- a reader: the header, the bytes that are left, and their offset in the file
pub record RecordReading : Type 0 where
  pub header : Header
  pub offset : ℕ
  pub rest : List ℕ

-- a step of a reader, from old to new: the end of the file, the next record, or why it can't be read
abbrev pub Steps : RecordReading → RecordReading → Result (Option Captured) Fault → Type 0
Steps old new (Ok None) = (old.rest ≡ []) × (new ≡ old)
Steps old new (Ok (Some r)) = FitsFields r × (old.rest ≡ record_bytes old.header.order r ++ new.rest)
    × (new.offset ≡ old.offset + length (record_bytes old.header.order r)) × (new.header ≡ old.header)
Steps old new (Err f) =
    ((at : ℕ) × (f.offset ≡ old.offset + at) × IsCut f.why old.header.order old.rest at) × (new ≡ old)

-- ---- a whole file

pub record Whole : Type 0 where
  pub header : Header
  pub records : List Captured

-- the file has a header and then whole records, and after them this fault
pub record StopsIn (file : List ℕ) (f : Fault) : Type 0 where
  pub header : Header
  pub records : List Captured
  pub rest : List ℕ
  pub at : ℕ
  pub read : header_of file ≡ Ok header
  pub fit : AllByRecursion FitsFields records
  pub bytes_are : drop 24 file ≡ records_bytes header.order records ++ rest
  pub offset_is : f.offset ≡ 24 + length (records_bytes header.order records) + at
  pub cut : IsCut f.why header.order rest at

-- the contents of a file: its header and its records, or its first fault
abbrev pub Reads : List ℕ → Result Whole Fault → Type 0
Reads file (Ok w) = (header_of file ≡ Ok w.header) × AreRecords w.header.order (drop 24 file) w.records
Reads file (Err f) = (header_of file ≡ Err f) ⊎ StopsIn file f

-- a time in nanoseconds since 1970
abbrev pub nanoseconds : Resolution → ℕ → ℕ → ℕ
nanoseconds Microseconds seconds fraction = seconds * 1_000_000_000 + fraction * 1_000
nanoseconds Nanoseconds seconds fraction = seconds * 1_000_000_000 + fraction
