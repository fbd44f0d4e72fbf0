-- The ICMP reply that is being sent, as it's kept (this project's own).
use Rattle.std.specs.Prelude.{◌≡◌, ℕ, ◌+◌, nat_lt, false, if◌then◌else◌, List, [], ◌∷◌, length, map, take, drop}
use Rattle.params.specs.declared.TheConstants.{IP_HEADER, IP_DEFAULT_TTL}
use Rattle.flat_model.specs.Fragments.Cuts.{Part, cuts}
use Rattle.flat_ether.specs.Icmp.{part_packet}
use Rattle.flat_ether.specs.declared.sizes.TheConstants.{PROTOCOL_ICMP}
use Rattle.ip_out.specs.declared.head.IpHead.{IpHead}
use Rattle.ether_host.specs.declared.reply.Reply.{Reply}
use Rattle.ether_host.specs.declared.share.Share.{Share}

-- the bytes of the message
abbrev pub message_in : Reply → List ℕ
message_in r = take r.message.len r.message.buffer

-- the packet with one part of it
abbrev pub packet_in : Reply → Part → List ℕ
packet_in r = part_packet r.source r.id r.destination (message_in r)

-- the packets that still wait
abbrev pub packets_left : Reply → List (List ℕ)
packets_left r = if r.waits then map (packet_in r) (drop r.gone (cuts r.message.len r.mtu)) else []

-- what one packet carries
abbrev pub part_seen : Share → Part
part_seen s = record { offset = s.offset; size = s.size; more = s.more }

-- the part at a place among others: it says whether another one follows
pub record IsPartAt (parts : List Part) (i : ℕ) (p : Part) : Type 0 where
  pub here : drop i parts ≡ p ∷ drop (i + 1) parts
  pub more : p.more ≡ nat_lt (i + 1) (length parts)

-- the header of the packet with one part
abbrev pub share_head : Reply → Share → IpHead
share_head r s = record {
  tos = 0;
  total = IP_HEADER + s.size;
  id = r.id;
  dont = false;
  more = s.more;
  offset = s.offset;
  ttl = IP_DEFAULT_TTL;
  proto = PROTOCOL_ICMP;
  src = r.source;
  dst = r.destination;
}
