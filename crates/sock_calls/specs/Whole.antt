-- A packet from the wire that carries a whole datagram: it's stored in the queue of the one socket that matches it, or
-- dropped (`ipintr`, `udp_input` and `sbappendaddr` of volume 2, chapters 8, 23 and 16; stating it by what a pool shows
-- is this project's own).
use Rattle.std.specs.Prelude.{◌≡◌, ℕ, ◌+◌, ◌*◌, ◌≤◌, Bool, true, false, if◌then◌else◌, List, [], ◌∷◌, length, count_by, Option, Some, None, Result, Ok, Err}
use Rattle.params.specs.declared.TheConstants.{IP_MAX_PACKET, MCLBYTES, MHLEN, MINCLSIZE, MSIZE}
use Rattle.flat_model.specs.Amounts.Layout.{Room as LayoutRoom, Plain, Cluster, is_cluster, entries_on, need_of, weight_of, wire}
use Rattle.flat_model.specs.Amounts.Weight.{Item, Weight, nothing}
use Rattle.flat_model.specs.Sockets.Fits.{memory_of}
use Rattle.flat_model.specs.Packets.Header.{head_of}
use Rattle.flat_model.specs.Machine.State.{State, ends}
use Rattle.flat_model.specs.Machine.Ledger.{AreTaken, exact_ledger}
use Rattle.flat_model.specs.Machine.Arrival.{WholeArrivesAs}
use Rattle.flat_model.specs.Machine.Fate.{mark, nobody, told_whole}
use Rattle.flat_model.specs.declared.counters.Why.{Why}
use Rattle.flat_model.specs.declared.counters.Why.TheVariants.{UdpFullSocket, UdpNoPort}
use Rattle.flat_model.specs.declared.fate.Reached.{Reached}
use Rattle.mbuf_chain.specs.Chain.{PoolView, free_clusters, held_mbufs}
use Rattle.mbuf_chain.specs.Owners.{Moves}
use Rattle.chain_ops.specs.Stored.{Has}
use Rattle.ledger.specs.Accounts.{IsAccounted}
use Rattle.ip_out.specs.Headed.{carried_of}
use Rattle.chain_ops.specs.declared.store.Space.{Space}
use Rattle.chain_ops.specs.declared.store.Space.TheVariants.{InMbuf, InCluster, InMore}
use Rattle.pcb_table.specs.Table.{IsDescriptor}
use Rattle.sock_calls.specs.declared.taking.Taken.{Taken}
use Rattle.sock_calls.specs.declared.taking.Taken.TheVariants.{Stored, Full, NoPort}
use Rattle.sock_calls.specs.Sockets.{SocksView, IsSocks, queued_chains, with_sockets}
use Rattle.sock_calls.specs.Delivery.{IsAccountedAt, KeepsParts, NetView, net_state}

-- ---- the buffers of a packet

-- n bytes in one mbuf: in a cluster or in the mbuf itself
abbrev pub one_room : Bool → ℕ → LayoutRoom
one_room is_large n = if is_large then Cluster n else Plain n

-- A packet of n bytes takes one mbuf, with or without a cluster. These are free, and so is a second mbuf.
pub record HasOne (p : PoolView) (n : ℕ) (is_large : Bool) : Type 0 where
  pub room : wire n ≡ one_room is_large n ∷ []
  pub mbufs : held_mbufs p + 2 ≤ p.mbufs
  pub clusters : (if is_large then 1 else 0) ≤ free_clusters p
  pub fits : n ≤ (if is_large then MCLBYTES else MHLEN)
  pub begins : (if is_large then MINCLSIZE else 0) ≤ n

-- A packet of n bytes isn't too long, and its buffers are free.
pub record HasWire (p : PoolView) (n : ℕ) : Type 0 where
  pub most : n ≤ IP_MAX_PACKET
  pub free : Has p (wire n)

-- The free space in the pool for a packet of n bytes. `InMbuf` and `InCluster` leave a second mbuf for the sender's
-- address; `InMore` is any packet whose buffers are free.
abbrev pub HasSpace : PoolView → ℕ → Space → Type 0
HasSpace p n InMbuf = HasOne p n false
HasSpace p n InCluster = HasOne p n true
HasSpace p n InMore = Has p (wire n)

-- ---- what happens to it

-- the bytes that a packet carries, in the mbufs of a packet from the wire
abbrev pub carried_item : List ℕ → List ℕ → Item
carried_item clusters packet = record {
  bytes = carried_of packet;
  weight = weight_of (entries_on clusters (wire (length packet)));
}

-- the bytes that a packet carries arrive as a whole datagram, and this becomes of it
abbrev pub ArrivesWhole : Result Reached Why → List ℕ → Item → State → State → Type 0
ArrivesWhole whole packet item old new =
    WholeArrivesAs exact_ledger (told_whole whole) nothing (head_of packet).source (head_of packet).destination
    (head_of packet).protocol
    item old new

-- the sets of a datagram that one socket got, or lost because its queue was full
abbrev pub got_by : ℕ → Reached
got_by fd = mark None fd nobody

abbrev pub lost_by : ℕ → Reached
lost_by fd = mark (Some UdpFullSocket) fd nobody

-- The packet was put into the queue of socket fd, which matches it, and only chains of receive queues changed. That is
-- one step of the machine, for every rest of it, and the pool accounts for the sockets' chains.
pub record StoresWhole (p : PoolView) (s : SocksView) (packet : List ℕ) (fd : ℕ) (q : PoolView) (t : SocksView)
    : Type 0 where
  pub descriptor : IsDescriptor fd
  pub step : (rest : State) → IsAccounted p (with_sockets p s rest) nothing
      → (clusters : List ℕ)
      × AreTaken exact_ledger (with_sockets p s rest) (need_of (wire (length packet))).clusters clusters
      × ArrivesWhole (Ok (got_by fd)) packet (carried_item clusters packet) (with_sockets p s rest)
      (with_sockets q t rest)
  pub accounts : (rest : State) (held : Weight) → IsAccounted p (with_sockets p s rest) held
      → IsAccounted q (with_sockets q t rest) held
  pub ready : IsSocks q t
  pub pcbs : t.pcbs ≡ s.pcbs
  pub moves : Moves p (queued_chains p s.queues) q (queued_chains q t.queues)

-- a weight with the memory of a packet of n bytes
abbrev pub IsWireWeight : ℕ → Weight → Type 0
IsWireWeight n w = memory_of w ≡ MSIZE * length (wire n) + MCLBYTES * count_by is_cluster (wire n)

-- This becomes of the packet, and only the cause is counted, whichever buffers it would take.
abbrev pub EndsWhole : PoolView → SocksView → List ℕ → Result Reached Why → Why → Type 0
EndsWhole p s packet whole why =
    (rest : State) (w : Weight) → IsWireWeight (length packet) w
    → ArrivesWhole whole packet (record { bytes = carried_of packet; weight = w })
    (with_sockets p s rest) (ends why (with_sockets p s rest))

-- It was delivered to all sockets that match it, a copy to each but the last, or dropped, with all that is counted for
-- that: one step of the machine, which takes clusters that were free. This became of it.
pub record DeliversWhole (v : NetView) (packet : List ℕ) (whole : Result Reached Why) (u : NetView) : Type 0 where
  pub step : (rest : State) → IsAccountedAt v rest nothing
      → (clusters : List ℕ)
      × AreTaken exact_ledger (net_state v rest) (need_of (wire (length packet))).clusters clusters
      × ArrivesWhole whole packet (carried_item clusters packet) (net_state v rest) (net_state u rest)
  pub parts : KeepsParts v [] u []

-- the result of `take`: the packet was stored, or nothing has changed, because the queue of the socket that matches it
-- is full, or none matches
abbrev pub TakesWhole : PoolView → SocksView → List ℕ → PoolView → SocksView → Taken → Type 0
TakesWhole p s packet q t (Stored fd) = StoresWhole p s packet fd q t
TakesWhole p s packet q t (Full fd) =
    (q ≡ p) × (t ≡ s) × IsDescriptor fd × EndsWhole p s packet (Ok (lost_by fd)) UdpFullSocket
TakesWhole p s packet q t NoPort = (q ≡ p) × (t ≡ s) × EndsWhole p s packet (Err UdpNoPort) UdpNoPort
