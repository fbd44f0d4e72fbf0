-- The text of a capture that a page gets (this project's own).
use Rattle.std.specs.Prelude.{◌≡◌, ◌++◌, ℕ, List, [], ◌∷◌, length, codes, decimal, Option, Some, None, Result, Ok, Err}
use Rattle.capture.specs.Places.{Reading, Steps, start}
use Rattle.capture.specs.declared.fault.Fault.{Fault}
use Rattle.capture.specs.declared.records.Record.{Record}
use Rattle.page.specs.Served.{Handed, outcome_number}
use Rattle.page.specs.declared.records.PageCapture.{PageCapture}
use Rattle.capture.specs.Frames.{packet_in_frame}
use Rattle.capture.specs.declared.pcap.link_type.LinkType.{LinkType}
use Rattle.script_loop.specs.declared.fault.RunFault.TheVariants.{Memory}

-- ---- a record

abbrev pub or_none : {E : Type 0} → Result (List ℕ) E → List ℕ
or_none (Ok bytes) = bytes
or_none (Err e) = []

-- the IPv4 packet of a frame; no bytes if the frame has no such packet, or if the link type isn't known
abbrev pub ipv4_of : Option LinkType → List ℕ → List ℕ
ipv4_of None frame = []
ipv4_of (Some link) frame = or_none (packet_in_frame link frame)

abbrev pub nanoseconds_text : Option ℕ → List ℕ
nanoseconds_text None = codes "-"
nanoseconds_text (Some time) = decimal time

-- the line before a packet: the record's number, its time, how many bytes it had, how many were captured, and how many
-- the packet has
abbrev pub record_head : Record → ℕ → ℕ → List ℕ
record_head r captured len =
    decimal r.number ++ codes " " ++ nanoseconds_text r.time ++ codes " " ++ decimal r.original_len ++ codes " "
    ++ decimal captured ++ codes " " ++ decimal len ++ codes "\n"

abbrev pub record_bytes : Record → List ℕ → List ℕ
record_bytes r frame =
    record_head r (length frame) (length (ipv4_of r.link frame)) ++ ipv4_of r.link frame

-- ---- the records of a file

-- a record, and the bytes that were captured
pub record CapturedRecord : Type 0 where
  pub at : Record
  pub frame : List ℕ

-- these records were read, one after another
abbrev pub ReadsRecords : Reading → List CapturedRecord → Reading → Type 0
ReadsRecords old [] new = new ≡ old
ReadsRecords old (e ∷ es) new =
    (mid : Reading) × Steps old mid (Ok (Some e.at)) × (e.frame ≡ mid.bytes) × ReadsRecords mid es new

abbrev pub records_bytes : List CapturedRecord → List ℕ
records_bytes [] = []
records_bytes (e ∷ es) = record_bytes e.at e.frame ++ records_bytes es

-- these bytes were appended to the text, those of n records
abbrev pub SoFar : Reading → List ℕ → Reading → List ℕ → ℕ → Type 0
SoFar old before mid after n =
    (es : List CapturedRecord) × ReadsRecords old es mid × (after ≡ before ++ records_bytes es) × (n ≡ length es)

-- the file ends after these records, or is faulty there
abbrev pub EndsBy : Reading → Option Fault → Type 0
EndsBy mid None = (new : Reading) × Steps mid new (Ok None)
EndsBy mid (Some fault) = (new : Reading) × Steps mid new (Err fault)

abbrev pub ReadsAll : Reading → List ℕ → List ℕ → ℕ → Option Fault → Type 0
ReadsAll old before after n fault = (mid : Reading) × SoFar old before mid after n × EndsBy mid fault

-- no words if there is no fault
abbrev pub HasNoWords : Option Fault → List ℕ → Type 0
HasNoWords None words = words ≡ []
HasNoWords (Some fault) words = Unit {0}

-- All records of the file up to its end, or up to its fault, and after them a description of the fault. The page gets
-- the number of records, and how many of the bytes are theirs.
abbrev pub IsCaptureText : List ℕ → List ℕ → PageCapture → Type 0
IsCaptureText file text c =
    (lines : List ℕ) × (words : List ℕ) × (fault : Option Fault) × (text ≡ lines ++ words)
    × ReadsAll (start (Some file)) [] lines c.records fault × HasNoWords fault words × (c.lines_len ≡ length lines)

-- the page has that text in its buffer
abbrev pub Recorded : List ℕ → ℕ → ℕ → List ℕ → List ℕ → PageCapture → Type 0
Recorded file answer len before after c =
    (text : List ℕ) × (answer ≡ 0) × IsCaptureText file text c × (len ≡ length text) × Handed text before after

-- memory ran out, and nothing was written
abbrev pub IsCaptureUnread : ℕ → ℕ → List ℕ → List ℕ → PageCapture → PageCapture → Type 0
IsCaptureUnread answer len before after c new =
    (answer ≡ outcome_number (Err Memory)) × (len ≡ 0) × (after ≡ before) × (new ≡ c)
