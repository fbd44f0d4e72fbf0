-- The description of a frame (this project's own): the hardware addresses of its header (RFC 894), and its packet or
-- its ARP packet (RFC 826).
use Rattle.std.specs.Prelude.{ℕ, ◌==◌, List, ◌++◌, length, codes, nat_lt, if◌then◌else◌}
use Rattle.hex.specs.Hex.{encode_lower}
use Rattle.flat_model.specs.Packets.Header.{two_bytes, u16_at}
use Rattle.flat_model.specs.Scripts.Grammar.{address_text}
use Rattle.flat_ether.specs.Frames.{arp_of, body_of, is_arp, mac_at}
use Rattle.flat_ether.specs.declared.arp.Arp.{Arp}
use Rattle.flat_ether.specs.declared.mac.Mac.{Mac}
use Rattle.flat_ether.specs.declared.sizes.TheConstants.{ARP_REQUEST, ETHER_HEADER, ETHER_TYPE_ARP, ETHER_TYPE_IP}
use Rattle.play_text.specs.Packets.{packet_text}
use Rattle.play_text.specs.Pieces.{amount, mac_text}

-- `02:00:00:00:00:01 > ff:ff:ff:ff:ff:ff `: from the second address of a header to the first
abbrev pub frame_way_text : Mac → Mac → List ℕ
frame_way_text source destination = mac_text source ++ codes " > " ++ mac_text destination ++ codes " "

-- a request or a reply
abbrev pub arp_words : Arp → List ℕ
arp_words a =
    if a.op == ARP_REQUEST
    then codes "ARP who has " ++ address_text a.target ++ codes ", tell " ++ address_text a.ip
    else codes "ARP " ++ address_text a.ip ++ codes " is at " ++ mac_text a.mac

abbrev pub arp_text : List ℕ → List ℕ
arp_text body =
    if is_arp body then arp_words (arp_of body)
    else codes "ARP of " ++ amount (length body) (codes "byte") ++ codes ", not a request or reply for IPv4"

-- another type, in four digits
abbrev pub other_type_text : ℕ → ℕ → List ℕ
other_type_text kind n =
    codes "type 0x" ++ encode_lower (two_bytes kind) ++ codes ", " ++ amount n (codes "byte")

abbrev pub body_text : ℕ → List ℕ → List ℕ
body_text kind body =
    if kind == ETHER_TYPE_IP then packet_text body else
    if kind == ETHER_TYPE_ARP then arp_text body else other_type_text kind (length body)

-- a frame that has a header
abbrev pub headed_frame_text : List ℕ → List ℕ
headed_frame_text f = frame_way_text (mac_at 6 f) (mac_at 0 f) ++ body_text (u16_at 12 f) (body_of f)

-- the description of a frame
abbrev pub frame_text : List ℕ → List ℕ
frame_text f =
    if nat_lt (length f) ETHER_HEADER then amount (length f) (codes "byte") ++ codes " without a header of 14"
    else headed_frame_text f
