-- The packets of a datagram as chains (RFC 791, section 3.2; `ip_output` of volume 2, chapters 8 and 10; that all are
-- made before any is queued is this project's own).
use Rattle.std.specs.Prelude.{◌≡◌, ℕ, ◌+◌, ◌-◌, ◌≤◌, true, List, ◌++◌, length, take, drop, map, sum_by, slice_index_or, None}
use Rattle.std.specs.List.{AllByRecursion}
use Rattle.params.specs.declared.TheConstants.{IP_HEADER, IP_MAX_PACKET}
use Rattle.flat_model.specs.Amounts.Weight.{Item}
use Rattle.flat_model.specs.Fragments.Cuts.{Part, cuts}
use Rattle.flat_model.specs.Amounts.Layout.{entries_met}
use Rattle.flat_model.specs.Machine.Sending.{items}
use Rattle.mbuf_chain.specs.Chain.{PoolView, ChainView, string, entry_of, no_entry}
use Rattle.mbuf_chain.specs.Train.{TrainView, QueuedPacket, queued_packets}
use Rattle.chain_ops.specs.Weights.{layout_entries, HaveBytes}
use Rattle.ledger.specs.Accounts.{item_of}
use Rattle.ip_out.specs.declared.head.IpHead.{IpHead}
use Rattle.ip_out.specs.Headings.{head_bytes}

-- the chains of a train as packets, in order: their bytes and their weights
abbrev pub train_packets : PoolView → TrainView → List Item
train_packets p t = map (λ (queued_packet : QueuedPacket). item_of queued_packet.entries) (queued_packets p t)

-- the header of the packet of one part
abbrev pub part_head : IpHead → Part → IpHead
part_head h p = record h { total = IP_HEADER + p.size; more = p.more; offset = p.offset }

-- the packet of one part of the data
abbrev pub part_bytes : IpHead → List ℕ → Part → List ℕ
part_bytes h carried p = head_bytes (part_head h p) ++ take p.size (drop p.offset carried)

-- the parts of a datagram in a chain, after 20 bytes for its header
abbrev pub chain_parts : ChainView → ℕ → List Part
chain_parts v mtu = cuts (length (string v) - IP_HEADER) mtu

-- its packets: the first has the weight of the chain, each later one that of an mbuf and of those with its bytes
abbrev pub packets_of : ChainView → IpHead → ℕ → List Item
packets_of v h mtu = items (layout_entries v.entries) (part_bytes h (drop IP_HEADER (string v))) (chain_parts v mtu)

-- how many mbufs a later packet takes: one for its header, and one for each mbuf with its bytes
abbrev pub part_need : ChainView → Part → ℕ
part_need v p =
    1 + length (entries_met (layout_entries v.entries) (IP_HEADER + p.offset) (IP_HEADER + p.offset + p.size))

-- how many all later packets take
abbrev pub later_need : ChainView → ℕ → ℕ
later_need v mtu = sum_by (part_need v) (drop 1 (chain_parts v mtu))

-- A chain that can be output: its first mbuf is plain, has a packet header and begins with the 20 bytes of the
-- IP header, whatever they are; none of its mbufs is empty, and it isn't longer than a packet can be.
pub record IsDatagramChain (v : ChainView) : Type 0 where
  pub headed : v.front.header ≡ true
  pub plain : (entry_of v 0).cluster ≡ None
  pub room : IP_HEADER ≤ length (entry_of v 0).bytes
  pub bytes : HaveBytes v.entries
  pub most : length (string v) ≤ IP_MAX_PACKET

-- each packet of a train begins in a plain mbuf
abbrev pub AreBegunPlain : List QueuedPacket → Type 0
AreBegunPlain cs =
    AllByRecursion (λ (queued_packet : QueuedPacket). (slice_index_or queued_packet.entries 0 no_entry).cluster ≡ None)
    cs

abbrev pub BeginPlain : PoolView → TrainView → Type 0
BeginPlain p t = AreBegunPlain (queued_packets p t)
