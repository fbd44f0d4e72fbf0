-- The IPv4 packet in a frame (tcpdump.org/linktypes.html, IEEE 802.3 and 802.1Q, RFC 1661 and 1662).
use Rattle.std.specs.Prelude.{◌≡◌, ℕ, ◌/◌, ◌%◌, ◌&&◌, ◌≤◌, ◌⊎◌, List, [], ◌∷◌, ◌++◌, length, slice_index, take, drop, Result, Ok, Err, nat_lt, ◌==◌, ◌||◌, if◌then◌else◌}
use Rattle.std.specs.Int.{w16, w32}
use Rattle.capture.specs.File.{number_of}
use Rattle.capture.specs.declared.pcap.header.Order.TheVariants.{Little, Big}
use Rattle.capture.specs.declared.pcap.link.NoPacket.{NoPacket}
use Rattle.capture.specs.declared.pcap.link.NoPacket.TheVariants.{FrameCut, OtherProtocol, OtherFamily, OtherVersion}
use Rattle.capture.specs.declared.pcap.link_type.LinkType.{LinkType}
use Rattle.capture.specs.declared.pcap.link_type.LinkType.TheVariants.{Null, Ethernet, Ppp, Raw, Loop, LinuxCooked, Ipv4, LinuxCooked2}

infixl 10 ◌>>=◌
abbrev pub ◌>>=◌ : {A B : Type 0} → Result A NoPacket → (A → Result B NoPacket) → Result B NoPacket
(Ok x) >>= f = f x
(Err e) >>= f = Err e

-- A packet without the bytes after its total length, a 16-bit number at byte 2 (RFC 791, section 3.1). If that number
-- is less than a header or more than the bytes, nothing is cut off.
abbrev pub unpadded : List ℕ → List ℕ
unpadded bytes =
    if nat_lt (number_of Big w16 (drop 2 bytes)) 20 || nat_lt (length bytes) (number_of Big w16 (drop 2 bytes))
    then bytes
    else take (number_of Big w16 (drop 2 bytes)) bytes

-- A protocol, and the bytes after it. 0x8100 and 0x88a8 are VLAN tags: two bytes of the tag's own, then the protocol.
abbrev pub untagged : ℕ → List ℕ → Result (ℕ × List ℕ) NoPacket
untagged protocol rest =
    if (protocol == 0x8100) || (protocol == 0x88a8)
    then (if nat_lt (length rest) 4 then Err FrameCut else Ok (number_of Big w16 (drop 2 rest), drop 4 rest))
    else Ok (protocol, rest)

-- the packet after a protocol and at most two tags
unfoldable pub after : ℕ → List ℕ → Result (List ℕ) NoPacket
after protocol rest = do
  one ← untagged protocol rest
  two ← untagged one.0 one.1
  if two.0 == 0x800 then Ok (unpadded two.1) else Err (OtherProtocol two.0)

-- the packet of a frame with the protocol at offset `at` and a header of `header` bytes
abbrev pub by_protocol : ℕ → ℕ → List ℕ → Result (List ℕ) NoPacket
by_protocol at header frame =
    if nat_lt (length frame) header then Err FrameCut
    else after (number_of Big w16 (drop at frame)) (drop header frame)

-- A protocol family as some host wrote it. Families are below 65,536, so one that isn't was written in the other order.
abbrev pub host_family : List ℕ → ℕ
host_family frame =
    if nat_lt (number_of Little w32 frame) 65_536 then number_of Little w32 frame else number_of Big w32 frame

-- the packet after a protocol family
abbrev pub by_family : (List ℕ → ℕ) → List ℕ → Result (List ℕ) NoPacket
by_family family frame =
    if nat_lt (length frame) 4 then Err FrameCut else
    if family frame == 2 then Ok (unpadded (drop 4 frame)) else Err (OtherFamily (family frame))

-- a PPP frame (RFC 1661, section 2) without its address and control bytes, ff 03, if it has them (RFC 1662, section
-- 3.1)
abbrev pub unframed : List ℕ → List ℕ
unframed [] = []
unframed (a ∷ []) = a ∷ []
unframed (a ∷ b ∷ rest) = if (a == 0xff) && (b == 3) then rest else a ∷ b ∷ rest

-- The packet after a PPP protocol, which is 0x0021 for IPv4. A peer may agree to leave out the protocol's high byte;
-- its low byte is odd (RFC 1661, section 6.5).
abbrev pub by_ppp : List ℕ → Result (List ℕ) NoPacket
by_ppp [] = Err FrameCut
by_ppp (b ∷ bs) =
    if b % 2 == 1 then (if b == 0x21 then Ok (unpadded bs) else Err (OtherProtocol b))
    else if nat_lt (length bs) 1 then Err FrameCut
    else if number_of Big w16 (b ∷ bs) == 0x21 then Ok (unpadded (drop 1 bs))
    else Err (OtherProtocol (number_of Big w16 (b ∷ bs)))

-- a packet without a link header, by its version
abbrev pub by_version : List ℕ → Result (List ℕ) NoPacket
by_version [] = Err FrameCut
by_version (b ∷ bs) = if b / 16 == 4 then Ok (unpadded (b ∷ bs)) else Err (OtherVersion (b / 16))

-- the IPv4 packet in a frame of a link type, or why the frame has no packet
abbrev pub packet_in_frame : LinkType → List ℕ → Result (List ℕ) NoPacket
packet_in_frame Ethernet frame = by_protocol 12 14 frame
packet_in_frame LinuxCooked frame = by_protocol 14 16 frame
packet_in_frame LinuxCooked2 frame = by_protocol 0 20 frame
packet_in_frame Ppp frame = by_ppp (unframed frame)
packet_in_frame Null frame = by_family host_family frame
packet_in_frame Loop frame = by_family (number_of Big w32) frame
packet_in_frame Raw frame = by_version frame
packet_in_frame Ipv4 frame = Ok (unpadded frame)

-- ---- frames as they are written

-- a packet of version 4, whose total length is its number of bytes
pub record IsPacket (packet : List ℕ) : Type 0 where
  pub version : slice_index packet 0 / 16 ≡ 4
  pub header : 20 ≤ length packet
  pub total : number_of Big w16 (drop 2 packet) ≡ length packet

-- the first list is at most two VLAN tags, the protocol number of IPv4, and then the second list
abbrev pub IsTagged : List ℕ → List ℕ → Type 0
IsTagged bytes carried =
    (bytes ≡ 8 ∷ 0 ∷ carried)
    ⊎ ((a b : ℕ) × (bytes ≡ 0x81 ∷ 0 ∷ a ∷ b ∷ 8 ∷ 0 ∷ carried))
    ⊎ ((a b c d : ℕ) × (bytes ≡ 0x88 ∷ 0xa8 ∷ a ∷ b ∷ 0x81 ∷ 0 ∷ c ∷ d ∷ 8 ∷ 0 ∷ carried))

-- the frame of a link type carries these bytes as IPv4
abbrev pub CarriesIpv4 : LinkType → List ℕ → List ℕ → Type 0
CarriesIpv4 Ethernet frame carried =
    (addresses after : List ℕ) × (length addresses ≡ 12) × IsTagged after carried × (frame ≡ addresses ++ after)
CarriesIpv4 LinuxCooked frame carried =
    (front after : List ℕ) × (length front ≡ 14) × IsTagged after carried × (frame ≡ front ++ after)
CarriesIpv4 LinuxCooked2 frame carried =
    (others : List ℕ) × (length others ≡ 18) × (frame ≡ 8 ∷ 0 ∷ (others ++ carried))
CarriesIpv4 Ppp frame carried =
    (frame ≡ 0 ∷ 0x21 ∷ carried) ⊎ (frame ≡ 0xff ∷ 3 ∷ 0 ∷ 0x21 ∷ carried) ⊎ (frame ≡ 0x21 ∷ carried)
    ⊎ (frame ≡ 0xff ∷ 3 ∷ 0x21 ∷ carried)
CarriesIpv4 Null frame carried = (frame ≡ 2 ∷ 0 ∷ 0 ∷ 0 ∷ carried) ⊎ (frame ≡ 0 ∷ 0 ∷ 0 ∷ 2 ∷ carried)
CarriesIpv4 Loop frame carried = frame ≡ 0 ∷ 0 ∷ 0 ∷ 2 ∷ carried
CarriesIpv4 Raw frame carried = frame ≡ carried
CarriesIpv4 Ipv4 frame carried = frame ≡ carried
