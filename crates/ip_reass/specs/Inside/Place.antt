-- The place in the table of the datagram with a key, to which a fragment is added (this project's own).
use Rattle.std.specs.Prelude.{◌≡◌, ◌⊎◌, ℕ, ◌+◌, ◌<◌, ◌≤◌, Bool, true, false, List, [], ◌∷◌, ◌++◌, take, find, length, slice_get, Option, None, Some}
use Rattle.params.specs.declared.TheConstants.{IP_MAX_DATA, MCLBYTES, PACKET_START}
use Rattle.flat_model.specs.Amounts.Weight.{Weight}
use Rattle.flat_model.specs.Machine.State.{State, Key}
use Rattle.flat_model.specs.Machine.Ledger.{exact_ledger, HasBuffers, need_mbufs}
use Rattle.flat_model.specs.declared.counters.Counters.{Counters}
use Rattle.mbuf_chain.specs.Chain.{PoolView, Adds, chain_of, free_clusters, string}
use Rattle.mbuf_chain.specs.Owners.{IsOwned, Moves}
use Rattle.mbuf_chain.specs.Steps.{one_mbuf, empty_entry}
use Rattle.chain_ops.specs.Makes.{HasMbufs}
use Rattle.ledger.specs.Accounts.{IsAccounted}
use Rattle.ip_reass.specs.Arrivals.{with_waiting}
use Rattle.ip_reass.specs.Layouts.{WaitOrNone, queues}
use Rattle.ip_reass.specs.Table.{TableView, IsReady, IsTable, has_key, held_all, new_datagram}
use Rattle.ip_reass.specs.declared.datagram.Datagram.{Datagram}

-- the packet has at least this many bytes, and what it carries fits in an mbuf and a cluster that are free
pub record HasRoomFor (least : ℕ) (p : PoolView) (packet : List ℕ) : Type 0 where
  pub many : least ≤ length packet
  pub few : length packet ≤ MCLBYTES
  pub mbufs : HasMbufs p 2
  pub cluster : 0 < free_clusters p

-- chain c, which is in hand, can become a fragment of a datagram of the table, at this offset
pub record CanJoin (p : PoolView) (r : TableView) (c offset : ℕ) : Type 0 where
  pub ready : IsReady p r
  pub owned : IsOwned p (c ∷ held_all p r.datagrams)
  pub headed : (chain_of p c).front.header ≡ true
  pub some : 0 < length (string (chain_of p c))
  pub small : offset + length (string (chain_of p c)) ≤ IP_MAX_DATA

-- the same for datagram i of the table
pub record CanInsertAt (p : PoolView) (ds : List Datagram) (i c offset : ℕ) : Type 0 where
  pub table : IsTable p ds
  pub place : i < length ds
  pub owned : IsOwned p (c ∷ held_all p ds)
  pub headed : (chain_of p c).front.header ≡ true
  pub some : 0 < length (string (chain_of p c))
  pub small : offset + length (string (chain_of p c)) ≤ IP_MAX_DATA

-- an mbuf was requested, from p, r and counters c to q, s and d: if none was free, no datagram waits any more
pub record RequestsMbuf (p : PoolView) (r : TableView) (c : Counters) (answer : Bool) (q : PoolView) (s : TableView)
    (d : Counters) : Type 0 where
  pub has_buffers : (rest : State) (held : Weight) → IsAccounted p (with_waiting p r.datagrams c rest) held
      → HasBuffers exact_ledger (with_waiting p r.datagrams c rest) held (need_mbufs 1) answer
      (with_waiting q s.datagrams d rest)
  pub waits : WaitOrNone (queues p r.datagrams) (queues q s.datagrams)
  pub none : answer ≡ false → queues q s.datagrams ≡ []
  pub ready : IsReady q s
  pub moves : Moves p (held_all p r.datagrams) q (held_all q s.datagrams)

-- the first datagram with the key is at this place
pub record IsFirst (k : Key) (ds : List Datagram) (i : ℕ) : Type 0 where
  pub within : i < length ds
  pub here : find (has_key k) ds ≡ slice_get ds i
  pub front : find (has_key k) (take i ds) ≡ None

-- a datagram with key k was begun at place i, after those that remained when its mbuf was allocated
pub record HasBegun (p : PoolView) (r : TableView) (c : Counters) (k : Key) (i : ℕ) (q : PoolView) (s : TableView)
    (d : Counters) : Type 0 where
  pub mid : PoolView
  pub left : TableView
  pub holder : ℕ
  pub asked : RequestsMbuf p r c true mid left d
  pub adds : Adds mid q holder (one_mbuf true (empty_entry PACKET_START None) holder)
  pub change : s.datagrams ≡ left.datagrams ++ new_datagram k holder ∷ []
  pub room : s.room ≡ left.room
  pub place : i ≡ length left.datagrams

-- the place of a key's datagram, which is there already or is begun; no place if no mbuf was available for it
abbrev pub HasPlace : PoolView → TableView → Counters → Key → Option ℕ → PoolView → TableView → Counters → Type 0
HasPlace p r c k None q s d = (find (has_key k) r.datagrams ≡ None) × RequestsMbuf p r c false q s d
HasPlace p r c k (Some i) q s d =
    (IsFirst k r.datagrams i × (q ≡ p) × (s ≡ r) × (d ≡ c))
    ⊎ ((find (has_key k) r.datagrams ≡ None) × HasBegun p r c k i q s d)
