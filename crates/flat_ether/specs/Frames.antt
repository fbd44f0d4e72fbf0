-- The bytes of frames and of ARP packets (RFC 894, RFC 826). All numbers are big-endian.
use Rattle.std.specs.Prelude.{ℕ, ◌+◌, ◌/◌, ◌%◌, ◌^◌, nat_lt, nat_le, Bool, ◌==◌, ◌&&◌, ◌||◌, not, if◌then◌else◌, List, ◌++◌, length, drop}
use Rattle.flat_model.specs.Packets.Header.{two_bytes, four_bytes, u16_at, u32_at}
use Rattle.flat_model.specs.declared.config.Config.{Config}
use Rattle.params.specs.declared.TheConstants.{IP_HEADER, FIRST_MULTICAST, LOOPBACK}
use Rattle.flat_ether.specs.declared.mac.Mac.{Mac}
use Rattle.flat_ether.specs.declared.arp.Arp.{Arp}
use Rattle.flat_ether.specs.declared.link.FrameKind.{FrameKind}
use Rattle.flat_ether.specs.declared.link.FrameKind.TheVariants.{Packet, Martian, Arp as Of_arp, Other}
use Rattle.flat_ether.specs.declared.sizes.TheConstants.{ETHER_HEADER, ETHER_TYPE_IP, ETHER_TYPE_ARP, ARP_BYTES}

-- ---- hardware addresses

abbrev pub mac_bytes : Mac → List ℕ
mac_bytes m = two_bytes m.high ++ four_bytes m.low

-- the one in the six bytes that begin at a place
abbrev pub mac_at : ℕ → List ℕ → Mac
mac_at at bytes = record { high = u16_at at bytes; low = u32_at (at + 2) bytes }

abbrev pub same_mac : Mac → Mac → Bool
same_mac a b = (a.high == b.high) && (a.low == b.low)

-- ff:ff:ff:ff:ff:ff
abbrev pub ether_broadcast : Mac
ether_broadcast = record { high = 0xffff; low = 0xffffffff }

-- what a request has instead of the hardware address that it looks for
abbrev pub no_mac : Mac
no_mac = record { high = 0; low = 0 }

-- It can be the address of one host: it's not a group's, as the broadcast address is, and not all zeros.
abbrev pub is_host_mac : Mac → Bool
is_host_mac m = (m.high / 256 % 2 == 0) && not (same_mac m no_mac)

-- ---- frames

abbrev pub header : Mac → Mac → ℕ → List ℕ
header destination source kind = mac_bytes destination ++ mac_bytes source ++ two_bytes kind

abbrev pub frame : Mac → Mac → ℕ → List ℕ → List ℕ
frame destination source kind body = header destination source kind ++ body

abbrev pub body_of : List ℕ → List ℕ
body_of f = drop ETHER_HEADER f

-- ---- packets with addresses that can't come from a link (RFC 1122, section 3.2.1.3)

abbrev pub is_loopback : ℕ → Bool
is_loopback ip = ip / 2 ^ 24 == LOOPBACK / 2 ^ 24

-- in 0/8 or 127/8, a multicast address or above, or this network's broadcast address: no host sends from it
abbrev pub is_bad_source : Config → ℕ → Bool
is_bad_source c ip = nat_lt ip (2 ^ 24) || (nat_le FIRST_MULTICAST ip || (is_loopback ip || (ip == c.bcast)))

abbrev pub is_martian : Config → List ℕ → Bool
is_martian c packet =
    nat_le IP_HEADER (length packet) && (is_bad_source c (u32_at 12 packet) || is_loopback (u32_at 16 packet))

-- ---- what a frame is for a host

-- it has a header, and is addressed to this hardware address or to the broadcast address
abbrev pub is_addressed : Mac → List ℕ → Bool
is_addressed mac f =
    nat_le ETHER_HEADER (length f) && (same_mac (mac_at 0 f) mac || same_mac (mac_at 0 f) ether_broadcast)

abbrev pub packet_kind : Config → List ℕ → FrameKind
packet_kind c packet = if is_martian c packet then Martian else Packet

abbrev pub kind_of : Config → Mac → List ℕ → FrameKind
kind_of c mac f =
    if is_addressed mac f
    then (
    if u16_at 12 f == ETHER_TYPE_IP
    then packet_kind c (body_of f)
    else if u16_at 12 f == ETHER_TYPE_ARP then Of_arp else Other)
    else Other

-- ---- ARP

abbrev pub arp_bytes : ℕ → Mac → ℕ → Mac → ℕ → List ℕ
arp_bytes op mac ip target_mac target =
    two_bytes 1 ++ two_bytes ETHER_TYPE_IP ++ two_bytes 0x0604 ++ two_bytes op ++ mac_bytes mac ++ four_bytes ip
    ++ mac_bytes target_mac ++ four_bytes target

abbrev pub arp_of : List ℕ → Arp
arp_of b = record { op = u16_at 6 b; mac = mac_at 8 b; ip = u32_at 14 b; target = u32_at 24 b }

-- a request or a reply of Ethernet and IPv4, with addresses of 6 and 4 bytes
abbrev pub is_arp : List ℕ → Bool
is_arp b =
    nat_le ARP_BYTES (length b)
    && ((u16_at 0 b == 1) && ((u16_at 2 b == ETHER_TYPE_IP)
    && ((u16_at 4 b == 0x0604) && ((u16_at 6 b == 1) || (u16_at 6 b == 2)))))
