-- An arrival compared with that of the flat machine (`ip_reass` of TCP/IP Illustrated, volume 2, chapter 10): the
-- clauses hold whatever the rest of the machine is.
use Rattle.std.specs.Prelude.{◌≡◌, ◌⊎◌, ℕ, ◌+◌, ◌<◌, ◌≤◌, Bool, true, false, is_some, nat_le, if◌then◌else◌, List, [], ◌∷◌, ◌++◌, length, drop, None}
use Rattle.params.specs.declared.TheConstants.{IP_HEADER, MINCLSIZE, MAX_PROTOCOL_HEADER}
use Rattle.flat_model.specs.Amounts.Weight.{Weight, Item, ◌⊕◌}
use Rattle.flat_model.specs.Packets.Header.{Head}
use Rattle.flat_model.specs.Machine.State.{State, Key}
use Rattle.flat_model.specs.Machine.Count.{counted}
use Rattle.flat_model.specs.Machine.Ledger.{exact_ledger, HasBuffers, need_mbufs}
use Rattle.flat_model.specs.Machine.Arrival.{Origin, By_wire, Looped, Ended, Reassembled, Saying, Stored, WholeArrivesAs}
use Rattle.flat_model.specs.declared.counters.Counters.{Counters}
use Rattle.flat_model.specs.declared.counters.Why.TheVariants.{NoBufs}
use Rattle.mbuf_chain.specs.Chain.{ChainView, Entry, PoolView, alone, chain_of, entry_of, string}
use Rattle.mbuf_chain.specs.Owners.{Moves}
use Rattle.chain_ops.specs.Pulls.{entries_pulled}
use Rattle.chain_ops.specs.Trims.{without_first}
use Rattle.ledger.specs.Accounts.{item_at, weight_at}
use Rattle.ip_out.specs.declared.head.IpHead.{IpHead}
use Rattle.ip_reass.specs.Table.{held_all, unfinished}
use Rattle.ip_reass.specs.declared.datagram.Datagram.{Datagram}
use Rattle.ip_reass.specs.declared.arrival.Arrival.{Arrival}
use Rattle.ip_reass.specs.declared.arrival.Arrival.TheVariants.{Kept, Whole, Dropped}

-- the machine with these unfinished datagrams and counters, and the machine `rest` in all other fields
abbrev pub with_waiting : PoolView → List Datagram → Counters → State → State
with_waiting p ds c rest = record rest { unfinished = unfinished p ds; counters = c }

-- what the flat machine reads of a header, and the key of its fragment
abbrev pub flat_head : IpHead → Head
flat_head h = record {
  id = h.id;
  more = h.more;
  offset = h.offset;
  protocol = h.proto;
  source = h.src;
  destination = h.dst;
}

abbrev pub key_in : IpHead → Key
key_in h = record { source = h.src; destination = h.dst; id = h.id; protocol = h.proto }

-- what a packet carries after its IP header, with the weight of its chain
abbrev pub carried_at : PoolView → ℕ → Item
carried_at p c = record { bytes = drop IP_HEADER (string (chain_of p c)); weight = weight_at p c }

-- The first mbuf shows the origin of a packet: by loopback it's plain; from the wire it's a cluster if at least 208
-- bytes were received, which then holds more than 40 bytes of the packet, or all.
pub record CameByWire (received : ℕ) (v : ChainView) : Type 0 where
  pub cluster : is_some (entry_of v 0).cluster ≡ nat_le MINCLSIZE received
  pub holds : (length (string v) ≤ length (entry_of v 0).bytes) ⊎ (MAX_PROTOCOL_HEADER < length (entry_of v 0).bytes)

abbrev pub CameBy : Origin → ChainView → Type 0
CameBy (By_wire received) v = CameByWire received v
CameBy Looped v = (entry_of v 0).cluster ≡ None

-- the chains that the caller holds then
abbrev pub in_hand : Arrival → List ℕ
in_hand Kept = []
in_hand (Whole c h) = c ∷ []
in_hand (Dropped why) = []

-- from p and ds to q and es these chains came to the table; what the result has is in the caller's hand
abbrev pub ArrivalMoves : PoolView → List ℕ → List Datagram → Arrival → PoolView → List Datagram → Type 0
ArrivalMoves p chains ds result q es = Moves p (chains ++ held_all p ds) q (in_hand result ++ held_all q es)

-- a whole datagram that is returned: its chain has a packet header and is in no train, and its header is that of the
-- fragment that came last, with the total length of the whole, offset 0 and no "more fragments"
pub record IsWholeOf (q : PoolView) (c : ℕ) (h last : IpHead) : Type 0 where
  pub front : (chain_of q c).front ≡ alone true
  pub head : h ≡ record last { total = IP_HEADER + length (string (chain_of q c)); more = false; offset = 0 }

abbrev pub HasWhole : PoolView → IpHead → Arrival → Type 0
HasWhole q last Kept = Unit {0}
HasWhole q last (Whole c h) = IsWholeOf q c h last
HasWhole q last (Dropped why) = Unit {0}

-- From the machine `now` on, whatever happens to the chains that the caller holds: a whole datagram arrives as the flat
-- machine says. The saying is of the fragment's end.
abbrev pub GoesOn : Saying → Weight → PoolView → Arrival → State → State → Type 0
GoesOn Says held q Kept now new = Says Stored new now
GoesOn Says held q (Whole c h) now new =
    WholeArrivesAs exact_ledger (λ end. Says (Reassembled end)) held h.src h.dst h.proto (item_at q c) now new
GoesOn Says held q (Dropped why) now new = Says (Ended why) new now

-- The header of chain v was pulled up: from p, ds and counters c to q, es and d.
pub record IsPulled (p : PoolView) (ds : List Datagram) (c : Counters) (w : Weight) (answer : Bool) (q : PoolView)
    (es : List Datagram) (d : Counters) (rest : State) (held : Weight) : Type 0 where
  pub mid : Counters
  pub has_buffers : HasBuffers exact_ledger (with_waiting p ds c rest) (held ⊕ w) (need_mbufs 1) answer
      (with_waiting q es mid rest)
  pub counts : d ≡ (if answer then mid else counted NoBufs mid)

-- ---- layouts

-- the mbufs of a packet after its header was pulled up, if its first mbuf is a cluster
abbrev pub pulled_entries : ChainView → List Entry
pulled_entries v = if is_some (entry_of v 0).cluster then entries_pulled v IP_HEADER else v.entries

-- the same after the header was cut off, which leaves all mbufs
abbrev pub carried_entries : ChainView → List Entry
carried_entries v = without_first IP_HEADER (pulled_entries v)
