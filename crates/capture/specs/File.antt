-- What a capture file is (pcap-savefile(5), draft-ietf-opsawg-pcap): a header of 24 bytes, then records, each of a
-- header of 16 bytes and the bytes that were captured.
use Rattle.std.specs.Prelude.{◌≡◌, ℕ, ◌%◌, ◌^◌, ◌<◌, List, ◌++◌, length, drop, Option, Some, None, Result, Ok, Err, nat_lt, ◌==◌, ◌&&◌, if◌then◌else◌}
use Rattle.std.specs.Int.{Width, w16, w32, to_le_bytes, to_be_bytes, from_le_bytes, from_be_bytes}
use Rattle.capture.specs.Types.{link_number, link_type_of}
use Rattle.capture.specs.declared.pcap.link_type.LinkType.{LinkType}
use Rattle.capture.specs.declared.pcap.link_type.LinkType.TheVariants.{Ipv4}
use Rattle.capture.specs.declared.pcap.fault.Fault.{Fault}
use Rattle.capture.specs.declared.pcap.fault.Why.{Why}
use Rattle.capture.specs.declared.pcap.fault.Why.TheVariants.{HeaderCut, BadMagic, BadVersion, BadLinkType}
use Rattle.capture.specs.declared.pcap.header.Header.{Header}
use Rattle.capture.specs.declared.pcap.header.Order.{Order}
use Rattle.capture.specs.declared.pcap.header.Order.TheVariants.{Little, Big}
use Rattle.capture.specs.declared.pcap.header.Resolution.{Resolution}
use Rattle.capture.specs.declared.pcap.header.Resolution.TheVariants.{Microseconds, Nanoseconds}

-- the result of a function, mapped by `view`, is this
abbrev pub ReturnsBy : {X Y E : Type 0} → (X → Y) → Result X E → Result Y E → Type 0
ReturnsBy view (Ok x) answer = answer ≡ Ok (view x)
ReturnsBy view (Err e) answer = answer ≡ Err e

-- the bytes of a number, in either order
abbrev pub number : Order → Width → ℕ → List ℕ
number Little w n = to_le_bytes w n
number Big w n = to_be_bytes w n

-- the number in the first bytes of a list
abbrev pub number_of : Order → Width → List ℕ → ℕ
number_of Little w bytes = from_le_bytes w bytes
number_of Big w bytes = from_be_bytes w bytes

-- ---- the file header

-- The meaning of the magic number, read with the low byte first. If a host of the other byte order wrote the file, the
-- number's bytes are reversed.
abbrev pub mark_of : ℕ → Option (Order × Resolution)
mark_of n =
    if n == 0xa1b2c3d4 then Some (Little, Microseconds) else
    if n == 0xd4c3b2a1 then Some (Big, Microseconds) else
    if n == 0xa1b23c4d then Some (Little, Nanoseconds) else
    if n == 0x4d3cb2a1 then Some (Big, Nanoseconds) else None

abbrev pub fault : Why → ℕ → Fault
fault why offset = record { why = why; offset = offset }

-- its fields, with the link type that the last of them names
abbrev pub fields_of : Order → Resolution → Option LinkType → List ℕ → Result Header Fault
fields_of o r None file = Err (fault (BadLinkType (number_of o w32 (drop 20 file) % 2 ^ 16)) 20)
fields_of o r (Some link) file = Ok (record {
  order = o;
  resolution = r;
  time_zone = number_of o w32 (drop 8 file);
  accuracy = number_of o w32 (drop 12 file);
  snap_len = number_of o w32 (drop 16 file);
  link_field = number_of o w32 (drop 20 file);
  link = link;
})

-- its version, and then its fields
abbrev pub version_of : Option (Order × Resolution) → List ℕ → Result Header Fault
version_of None file = Err (fault BadMagic 0)
version_of (Some m) file =
    if (number_of m.0 w16 (drop 4 file) == 2) && (number_of m.0 w16 (drop 6 file) == 4)
    then fields_of m.0 m.1 (link_type_of (number_of m.0 w32 (drop 20 file) % 2 ^ 16)) file
    else Err (fault BadVersion 4)

-- what the header of a file says, or the first fault in it
unfoldable pub header_of : List ℕ → Result Header Fault
header_of file =
    if nat_lt (length file) 24 then Err (fault HeaderCut 0)
    else version_of (mark_of (number_of Little w32 (drop 0 file))) file

-- ---- headers as they are written

abbrev pub magic : Resolution → ℕ
magic Microseconds = 0xa1b2c3d4
magic Nanoseconds = 0xa1b23c4d

-- the 24 bytes of a header: the magic number, the version, and the other fields
abbrev pub file_header_bytes : Header → List ℕ
file_header_bytes h =
    number h.order w32 (magic h.resolution) ++ number h.order w16 2 ++ number h.order w16 4
    ++ number h.order w32 h.time_zone
    ++ number h.order w32 h.accuracy ++ number h.order w32 h.snap_len ++ number h.order w32 h.link_field

-- the fields hold numbers of 32 bits, and the last of them names the link type
pub record IsHeader (h : Header) : Type 0 where
  pub time_zone : h.time_zone < 2 ^ 32
  pub accuracy : h.accuracy < 2 ^ 32
  pub snap_len : h.snap_len < 2 ^ 32
  pub link_field : h.link_field < 2 ^ 32
  pub link : link_type_of (h.link_field % 2 ^ 16) ≡ Some h.link

-- the header of each file that is written with this link type
abbrev pub header_for : LinkType → Header
header_for link = record {
  order = Little;
  resolution = Microseconds;
  time_zone = 0;
  accuracy = 0;
  snap_len = 65_535;
  link_field = link_number link;
  link = link;
}

-- that of a file of IPv4 packets
abbrev pub our_header : Header
our_header = header_for Ipv4
