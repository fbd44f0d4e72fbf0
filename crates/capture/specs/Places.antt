-- How a capture begins (this project's own).
use Rattle.std.specs.Prelude.{◌≡◌, ◌⊎◌, ℕ, ◌+◌, ◌-◌, ◌^◌, ◌<◌, ◌≤◌, min, List, [], length, get_or, nat_lt, not, ◌==◌, ◌&&◌, if◌then◌else◌, Option, Some, None, Result, Ok, Err}
use Rattle.std.specs.Io.KnownBytes.{Consumes, IsAtEnd}
use Rattle.capture.specs.File.{header_of}
use Rattle.capture.specs.declared.pcap.fault.Fault as classic
use Rattle.capture.specs.Faults.{classic_fault_at, fault_at}
use Rattle.capture.specs.Packets.{Known, Packet, found_in, known}
use Rattle.capture.specs.declared.blocks.Blocks.{Blocks}
use Rattle.capture.specs.Steps.{BlocksRead, ClassicReads, further}
use Rattle.capture.specs.declared.pcap.header.Header.{Header}
use Rattle.capture.specs.declared.blocks.Found.{Found}
use Rattle.capture.specs.declared.fault.Fault.{Fault}
use Rattle.capture.specs.declared.fault.FaultAt.{FaultAt}
use Rattle.capture.specs.declared.records.Record.{Record}
use Rattle.capture.specs.declared.fault.Why.TheVariants.{NotRead, Gzip}
use Rattle.capture.specs.declared.records.Format.{Format}
use Rattle.capture.specs.declared.records.Format.TheVariants as formats
use Rattle.capture.specs.declared.records.Kind.{Kind}
use Rattle.capture.specs.declared.records.Kind.TheVariants as kinds

-- the kind of a file by its first bytes: gzip (RFC 1952, section 2.3.1), pcapng by the type of its first block,
-- otherwise classic
abbrev pub kind_in : List ℕ → Kind
kind_in bytes =
    if not (nat_lt (length bytes) 2) && (get_or bytes 0 0 == 0x1f) && (get_or bytes 1 0 == 0x8b) then kinds.Gzip else
    if not (nat_lt (length bytes) 4) && (get_or bytes 0 0 == 0x0a) && (get_or bytes 1 0 == 0x0d)
    && (get_or bytes 2 0 == 0x0d) && (get_or bytes 3 0 == 0x0a)
    then kinds.Pcapng else kinds.Classic

-- why no format was found in these bytes
abbrev pub OpenFails : List ℕ → Type 0 → FaultAt → Type 0
OpenFails front ended s =
    (s.why ≡ NotRead)
    ⊎ ((kind_in front ≡ kinds.Gzip) × (s ≡ fault_at Gzip 0))
    ⊎ ((f : classic.Fault) × (kind_in front ≡ kinds.Classic) × (header_of front ≡ Err f)
    × (length front < 24 → ended) × (s ≡ classic_fault_at f))

-- what kind of stream these first bytes begin: a classic file with this header, or a pcapng file
abbrev pub Opens : Option (List ℕ) → Option (List ℕ) → List ℕ → Result (Option Header) FaultAt → Type 0
Opens old new front (Ok (Some h)) = Consumes old new front × (length front ≡ 24) × (header_of front ≡ Ok h)
Opens old new front (Ok None) = Consumes old new front × (length front ≤ 12) × (kind_in front ≡ kinds.Pcapng)
Opens old new front (Err s) = Consumes old new front × OpenFails front (IsAtEnd new) s

-- ---- a reader, and its steps

-- what a reader knows, its offset, and the bytes that are left
pub record Place : Type 0 where
  pub format : Format
  pub known : Known
  pub number : ℕ
  pub offset : ℕ
  pub rest : Option (List ℕ)

abbrev pub place_of : Format → Blocks → ℕ → ℕ → Option (List ℕ) → Place
place_of format blocks number offset rest =
    record { format = format; known = known blocks; number = number; offset = offset; rest = rest }

-- what was found in a pcapng file whose first bytes were already read, in the buffer after the read
abbrev pub FindsBlock : Place → Option (List ℕ) → List ℕ → Place → List ℕ → Result (Option Found) FaultAt → Type 0
FindsBlock old mid held new buffer out =
    BlocksRead old.known old.offset mid held new.known new.offset new.rest buffer out × (new.format ≡ formats.Pcapng)

-- what was found in a classic file
abbrev pub FindsRecord : Place → ℕ → Option (List ℕ) → Header → Place → List ℕ → Result (Option Found) FaultAt → Type 0
FindsRecord old offset mid h new buffer out =
    ClassicReads h mid new.rest buffer out × (new.offset ≡ offset) × (new.known ≡ old.known)
    × (new.format ≡ formats.Classic h)

-- what was found: the file is opened first if it wasn't
abbrev pub FindsIn : Format → Place → Place → List ℕ → Result (Option Found) FaultAt → Type 0
FindsIn (formats.Classic h) old new buffer out = FindsRecord old old.offset old.rest h new buffer out
FindsIn formats.Pcapng old new buffer out = FindsBlock old old.rest [] new buffer out
FindsIn formats.Unread old new buffer out =
    ((mid : Option (List ℕ)) × (front : List ℕ) × (h : Header) × Opens old.rest mid front (Ok (Some h))
    × FindsRecord old 24 mid h new buffer out)
    ⊎ ((mid : Option (List ℕ)) × (front : List ℕ) × Opens old.rest mid front (Ok None)
    × FindsBlock old mid front new buffer out)
    ⊎ ((s : FaultAt) × Opens old.rest new.rest buffer (Err s) × (out ≡ Err s) × (new.offset ≡ old.offset)
    × (new.known ≡ old.known) × (new.format ≡ formats.Unread))

-- a reader, with the fault by which reading ended, and the bytes of the record that was read last
pub record Reading : Type 0 where
  pub place : Place
  pub fault : Option Fault
  pub bytes : List ℕ

abbrev pub start : Option (List ℕ) → Reading
start rest = record {
  place = record {
    format = formats.Unread;
    known = record { order = None; interfaces = [] };
    number = 0;
    offset = 0;
    rest = rest;
  };
  fault = None;
  bytes = [];
}

-- the packet of a record
abbrev pub packet_in : Record → List ℕ → Packet
packet_in r bytes = record {
  time = r.time;
  original = r.original_len;
  link_number = r.link_number;
  link = r.link;
  bytes = bytes;
}

-- what a step returns for what was found, in the buffer after the read
abbrev pub StepGives : Place → List ℕ → Result (Option Found) FaultAt → Result (Option Record) Fault → Reading → Type 0
StepGives mid buffer (Ok None) result new =
    (result ≡ Ok None) × (new.place ≡ mid) × (new.fault ≡ None) × (new.bytes ≡ [])
StepGives mid buffer (Ok (Some f)) result new =
    (r : Record) × (result ≡ Ok (Some r)) × (r.number ≡ new.place.number) × (packet_in r new.bytes ≡ found_in buffer f)
    × (new.place ≡ record mid { number = min (mid.number + 1) (2 ^ 64 - 1); offset = further mid.offset buffer })
    × (new.fault ≡ None)
StepGives mid buffer (Err s) result new =
    (f : Fault) × (result ≡ Err f) × (f.why ≡ s.why) × (f.offset ≡ min (mid.offset + s.at) (2 ^ 64 - 1))
    × (new.place ≡ mid) × (new.fault ≡ Some f) × (new.bytes ≡ [])

-- A step of a reader by its last fault: after a fault it returns the same fault, and reads nothing.
abbrev pub StepsAfter : Option Fault → Place → Reading → Result (Option Record) Fault → Type 0
StepsAfter (Some f) old new result =
    (result ≡ Err f) × (new.place ≡ old) × (new.fault ≡ Some f) × (new.bytes ≡ [])
StepsAfter None old new result =
    (mid : Place) × (buffer : List ℕ) × (out : Result (Option Found) FaultAt) × FindsIn old.format old mid buffer out
    × (mid.number ≡ old.number) × StepGives mid buffer out result new

-- a step of a reader
abbrev pub Steps : Reading → Reading → Result (Option Record) Fault → Type 0
Steps old new result = StepsAfter old.fault old.place new result
