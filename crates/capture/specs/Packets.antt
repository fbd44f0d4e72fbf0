-- What a capture says of a packet, and what the blocks of a pcapng file say (draft-ietf-opsawg-pcapng, section 4).
use Rattle.std.specs.Prelude.{◌≡◌, ◌⊎◌, ℕ, ◌+◌, ◌<◌, ◌≤◌, ◌*◌, ◌/◌, ◌%◌, ◌^◌, ◌-◌, min, List, [], ◌∷◌, ◌++◌, length, take, drop, get_or, nat_lt, ◌==◌, if◌then◌else◌, Option, Some, None, Result, Ok, Err}
use Rattle.capture.specs.Records.{Captured, nanoseconds}
use Rattle.capture.specs.declared.pcap.header.Header.{Header}
use Rattle.capture.specs.declared.pcap.header.Order.{Order}
use Rattle.capture.specs.declared.pcap.link_type.LinkType.{LinkType}
use Rattle.capture.specs.Blocks.{Part, block_bytes, head_of, next_of, size}
use Rattle.capture.specs.Bodies.{Enhanced, Plain, enhanced_in, interface_in, plain_in, section_in}
use Rattle.capture.specs.declared.pcapng.block.TheConstants.{SECTION_HEADER}
use Rattle.capture.specs.declared.pcapng.body.Interface.{Interface}
use Rattle.capture.specs.declared.pcapng.body.Section.{Section}
use Rattle.capture.specs.declared.pcapng.fault.BodyFault.{BodyFault}
use Rattle.capture.specs.declared.pcapng.fault.Fault.{Fault}
use Rattle.capture.specs.Faults.{block_fault_at}
use Rattle.capture.specs.declared.blocks.Blocks.{Blocks}
use Rattle.capture.specs.declared.blocks.Found.{Found}
use Rattle.capture.specs.declared.blocks.TheConstants.{INTERFACES}
use Rattle.capture.specs.declared.fault.FaultAt.{FaultAt}
use Rattle.capture.specs.declared.fault.Why.{Why}
use Rattle.capture.specs.declared.fault.Why.TheVariants.{Body, NoInterface, TooManyInterfaces}

-- what was captured of a packet: when, in nanoseconds since 1970 if the capture says it, how many bytes it had, the
-- number of its bytes' link type, the link type if pcap knows it, and the bytes
pub record Packet : Type 0 where
  pub time : Option ℕ
  pub original : ℕ
  pub link_number : ℕ
  pub link : Option LinkType
  pub bytes : List ℕ

-- ticks in nanoseconds, at most what 64 bits hold
abbrev pub nanoseconds_of : ℕ → ℕ → ℕ
nanoseconds_of ticks per = if per == 0 then 0 else min (ticks * 1_000_000_000 / per) (2 ^ 64 - 1)

-- the packet of a classic file's record
abbrev pub classic_packet : Header → Captured → Packet
classic_packet h r = record {
  time = Some (nanoseconds h.resolution r.seconds r.fraction);
  original = r.original;
  link_number = h.link_field % 2 ^ 16;
  link = Some h.link;
  bytes = r.bytes;
}

-- what the blocks of a pcapng file have said so far: the byte order of the section, and its interfaces
pub record Known : Type 0 where
  pub order : Option Order
  pub interfaces : List Interface

abbrev pub known : Blocks → Known
known b = record { order = b.order; interfaces = b.interfaces.items }

abbrev pub in_order : Known → Order → Known
in_order k o = record k { order = Some o }

-- a section's header: no interfaces so far
abbrev pub by_section : Part → Result Section BodyFault → Result (Known × Option Packet) Why
by_section b (Err e) = Err (Body e)
by_section b (Ok s) = Ok (record { order = Some b.order; interfaces = [] }, None)

-- one more interface
abbrev pub by_interface : Known → Part → Result Interface BodyFault → Result (Known × Option Packet) Why
by_interface k b (Err e) = Err (Body e)
by_interface k b (Ok i) =
    if nat_lt (length k.interfaces) INTERFACES
    then Ok (record { order = Some b.order; interfaces = k.interfaces ++ i ∷ [] }, None)
    else Err TooManyInterfaces

abbrev pub no_interface : Interface
no_interface = record { link_number = 0; link = None; snap_len = 0; ticks_per_second = 0 }

abbrev pub interface_at : Known → ℕ → Interface
interface_at k n = get_or k.interfaces n no_interface

abbrev pub InterfaceAt : Known → ℕ → Option Interface → Type 0
InterfaceAt k n None = length k.interfaces ≤ n
InterfaceAt k n (Some i) = (n < length k.interfaces) × (i ≡ interface_at k n)

-- a packet with its time, of one of the section's interfaces
abbrev pub by_enhanced : Known → Part → Result Enhanced BodyFault → Result (Known × Option Packet) Why
by_enhanced k b (Err e) = Err (Body e)
by_enhanced k b (Ok e) =
    if nat_lt e.interface (length k.interfaces)
    then Ok (
      in_order k b.order,
      Some (record {
        time = Some (nanoseconds_of e.ticks (interface_at k e.interface).ticks_per_second);
        original = e.original;
        link_number = (interface_at k e.interface).link_number;
        link = (interface_at k e.interface).link;
        bytes = e.bytes;
      }),
    )
    else Err NoInterface

-- a packet of the section's first interface
abbrev pub by_plain : Known → Part → Result Plain BodyFault → Result (Known × Option Packet) Why
by_plain k b (Err e) = Err (Body e)
by_plain k b (Ok p) = Ok (
  in_order k b.order,
  Some (record {
    time = None;
    original = p.original;
    link_number = (interface_at k 0).link_number;
    link = (interface_at k 0).link;
    bytes = p.bytes;
  }),
)

abbrev pub by_first : Known → Part → Result (Known × Option Packet) Why
by_first k b =
    if nat_lt 0 (length k.interfaces) then by_plain k b (plain_in (interface_at k 0).snap_len b.order b.body)
    else Err NoInterface

-- what a block says: a section's header, an interface, or a packet of one of the two kinds that are in use today; other
-- blocks are ignored
abbrev pub taken : Known → Part → Result (Known × Option Packet) Why
taken k b =
    if b.kind == SECTION_HEADER then by_section b (section_in b.order b.body) else
    if b.kind == 1 then by_interface k b (interface_in b.order b.body) else
    if b.kind == 6 then by_enhanced k b (enhanced_in b.order b.body) else
    if b.kind == 3 then by_first k b else Ok (in_order k b.order, None)

-- ---- the position of its bytes

abbrev pub found_in : List ℕ → Found → Packet
found_in bytes f = record {
  time = f.time;
  original = f.original_len;
  link_number = f.link_number;
  link = f.link;
  bytes = take f.len (drop f.from bytes);
}

abbrev pub packet_found : List ℕ → Option Found → Option Packet
packet_found bytes None = None
packet_found bytes (Some f) = Some (found_in bytes f)

-- the result of reading a block, with the place of its packet's bytes in its body
abbrev pub BlockGives : Known → Part → Result (Option Found) Why → Known → Type 0
BlockGives k b (Ok found) new = taken k b ≡ Ok (new, packet_found b.body found)
BlockGives k b (Err why) new = taken k b ≡ Err why

abbrev pub IsInside : ℕ → Option Found → Type 0
IsInside n None = Unit {0}
IsInside n (Some f) = f.from + f.len ≤ n

-- the block is the first one in these bytes
pub record IsFirst (o : Option Order) (bytes : List ℕ) (b : Part) : Type 0 where
  pub next : next_of o bytes ≡ Ok b
  pub head : head_of o bytes ≡ Ok (b.order, size b)
  pub rest : List ℕ
  pub spelled : bytes ≡ block_bytes b ++ rest

-- the result of reading the block that begins these bytes
abbrev pub Takes : Known → List ℕ → Result (Option Found) FaultAt → Known → Type 0
Takes k bytes (Ok found) new = (b : Part) × IsFirst k.order bytes b × (taken k b ≡ Ok (new, packet_found bytes found))
Takes k bytes (Err s) new =
    ((f : Fault) × (next_of k.order bytes ≡ Err f) × (s ≡ block_fault_at f))
    ⊎ ((b : Part) × IsFirst k.order bytes b × (taken k b ≡ Err s.why) × (s.at ≡ 0))
