-- A send without an error, and its packets (`udp_output` and `ip_output` of volume 2, chapters 23, 8 and 10).
use Rattle.std.specs.Prelude.{ℕ, ◌+◌, Bool, ◌==◌, ◌||◌, if◌then◌else◌, List, [], ◌∷◌, take, drop, map, length}
use Rattle.params.specs.declared.TheConstants.{IP_HEADER, PROTOCOL_UDP, LOOPBACK_MTU}
use Rattle.flat_model.specs.Amounts.Weight.{Weight, Item, mbuf, ◌⊕◌}
use Rattle.flat_model.specs.Fragments.Cuts.{Part, cuts}
use Rattle.flat_model.specs.Amounts.Layout.{LayoutEntry, sent, entries_on, weight_of, entries_met}
use Rattle.flat_model.specs.Packets.Header.{Head, packet, udp}
use Rattle.flat_model.specs.Machine.State.{loopback}
use Rattle.flat_model.specs.declared.config.Config.{Config}
use Rattle.flat_model.specs.declared.address.Addr.{Addr}

-- a send: the identification, the source address and port, the destination, and the bytes
pub record Sending : Type 0 where
  pub id : ℕ
  pub source : ℕ
  pub to : Addr
  pub port : ℕ
  pub bytes : List ℕ

-- the datagram after the IP header
abbrev pub datagram : Sending → List ℕ
datagram x = udp x.source x.to.ip x.port x.to.port x.bytes

-- the header of the packet of one part
abbrev pub head_for : Sending → Part → Head
head_for x p =
    record {
      id = x.id;
      more = p.more;
      offset = p.offset;
      protocol = PROTOCOL_UDP;
      source = x.source;
      destination = x.to.ip;
    }

-- the packet of one part
abbrev pub packet_for : Sending → Part → List ℕ
packet_for x p = packet (head_for x p) (take p.size (drop p.offset (datagram x)))

-- a send to one of this host's own addresses comes back and isn't sent to the link; one to its broadcast address isn't
-- looped
abbrev pub is_looped : Config → ℕ → Bool
is_looped c ip = (ip == c.addr) || (ip == loopback)

-- the longest packet on the way there: 1536 bytes by loopback (`LOMTU` of volume 2, chapter 5), otherwise the link's
-- MTU
abbrev pub mtu_to : Config → ℕ → ℕ
mtu_to c ip = if is_looped c ip then LOOPBACK_MTU else c.mtu

-- the parts of the datagram
abbrev pub parts_of : Config → Sending → List Part
parts_of c x = cuts (length (datagram x)) (mtu_to c x.to.ip)

-- The weight of a later packet. The first packet uses the send's own mbufs, trimmed at its end. A later one has an mbuf
-- for its header and one for each mbuf that contains bytes of it, and shares the clusters of these.
abbrev pub later_weight : List LayoutEntry → Part → Weight
later_weight entries p = mbuf ⊕ weight_of (entries_met entries (IP_HEADER + p.offset) (IP_HEADER + p.offset + p.size))

-- the packets of the parts, with their weights
abbrev pub items : List LayoutEntry → (Part → List ℕ) → List Part → List Item
items entries bytes [] = []
items entries bytes (p ∷ later) =
    record { bytes = bytes p; weight = weight_of entries }
    ∷ map (λ q. record { bytes = bytes q; weight = later_weight entries q }) later

-- the packets of a send whose bytes are in these clusters
abbrev pub packets : Config → List ℕ → Sending → List Item
packets c clusters x = items (entries_on clusters (sent (length x.bytes))) (packet_for x) (parts_of c x)
