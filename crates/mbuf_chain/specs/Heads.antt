-- The head fields of the mbufs of a chain (TCP/IP Illustrated, volume 2, chapter 2: `m_next`, `m_nextpkt`, `m_len`,
-- `m_data`, `m_pkthdr` and `m_ext`).
use Rattle.std.specs.Prelude.{ℕ, List, [], ◌∷◌, length, Option, None, Some, option_map, slice_get, if◌then◌else◌}
use Rattle.mbuf_pool.specs.Cells.{PacketHeader}
use Rattle.mbuf_chain.specs.Chain.{Entry, ChainView, PoolView, chain_of, string}
use Rattle.mbuf_chain.specs.declared.mbuf_head.MbufHead.{MbufHead}

-- the packet header of a chain, if it has one: the number of its bytes, and its tag
abbrev pub packet_header : ChainView → Option PacketHeader
packet_header v = if v.front.header then Some (record { len = length (string v); arrival = v.front.tag }) else None

-- The mbufs with these numbers and entries, each linked to the one after it, and the bytes of each. The first of them
-- has this packet header, and the number of the chain after this one; the others have neither.
abbrev pub heads_from : Option PacketHeader → Option ℕ → List ℕ → List Entry → List (MbufHead × List ℕ)
heads_from packet after [] es = []
heads_from packet after (c ∷ cs) [] = []
heads_from packet after (c ∷ cs) (e ∷ es) = (
  record {
    number = c;
    next = slice_get cs 0;
    next_packet = after;
    start = e.start;
    len = length e.bytes;
    packet = packet;
    cluster = e.cluster;
  },
  e.bytes,
) ∷ heads_from None None cs es

-- the mbufs of a chain, in order
abbrev pub heads : ChainView → List (MbufHead × List ℕ)
heads v = heads_from (packet_header v) v.front.after v.cells v.entries

-- the mbufs of the chain at an index in this list of chains, if there is one
abbrev pub nth_heads : PoolView → List ℕ → ℕ → Option (List (MbufHead × List ℕ))
nth_heads p chains i = option_map (λ c. heads (chain_of p c)) (slice_get chains i)
