-- The state of the machine between two events (this project's own; the state of a socket is the control block and the
-- receive queue of volume 2, chapters 22 and 16).
use Rattle.std.specs.Prelude.{ℕ, ◌<◌, ◌≤◌, ◌^◌, ◌/◌, ◌≢◌, Bool, ◌==◌, ◌&&◌, not, if◌then◌else◌, List, [], ◌∷◌, ◌++◌, map, filter, find, Option, None}
use Rattle.params.specs.declared.TheConstants.{FIRST_MULTICAST, LOOPBACK, LIMITED_BROADCAST, MAX_MBUFS, MAX_CLUSTERS, MIN_MTU, MAX_MTU, FRAGMENT_TICKS}
use Rattle.flat_model.specs.Amounts.Weight.{Item}
use Rattle.flat_model.specs.Fragments.Overlay.{Map, empty}
use Rattle.flat_model.specs.Machine.Count.{no_counts, counted}
use Rattle.flat_model.specs.declared.address.Addr.{Addr}
use Rattle.flat_model.specs.declared.config.Config.{Config}
use Rattle.flat_model.specs.declared.config.ConfigFault.{ConfigFault}
use Rattle.flat_model.specs.declared.config.ConfigFault.TheVariants.{BadSizes, BadConfig}
use Rattle.flat_model.specs.declared.fragment_key.FragmentKey.{FragmentKey}
use Rattle.flat_model.specs.declared.counters.Why.{Why}
use Rattle.flat_model.specs.declared.counters.Counters.{Counters}

-- 127.0.0.1
abbrev pub loopback : ℕ
loopback = LOOPBACK

-- 255.255.255.255
abbrev pub limited_broadcast : ℕ
limited_broadcast = LIMITED_BROADCAST

-- an address that a host may have: 1.0.0.0 to 223.255.255.255, and not in 127/8
pub record IsHost (address : ℕ) : Type 0 where
  pub low : 2 ^ 24 ≤ address
  pub high : address < FIRST_MULTICAST
  pub no_loopback : address / 2 ^ 24 ≢ LOOPBACK / 2 ^ 24

-- valid sizes of a pool; there may be no clusters
pub record HasSizes (c : Config) : Type 0 where
  pub some_mbuf : 1 ≤ c.mbufs
  pub mbufs : c.mbufs ≤ MAX_MBUFS
  pub clusters : c.clusters ≤ MAX_CLUSTERS

-- what boot accepts
pub record IsConfig (c : Config) : Type 0 where
  pub some_mbuf : 1 ≤ c.mbufs
  pub mbufs : c.mbufs ≤ MAX_MBUFS
  pub clusters : c.clusters ≤ MAX_CLUSTERS
  pub least_mtu : MIN_MTU ≤ c.mtu
  pub greatest_mtu : c.mtu ≤ MAX_MTU
  pub addr : IsHost c.addr
  pub bcast : IsHost c.bcast
  pub apart : c.addr ≢ c.bcast
  pub first_id : c.first_id < 2 ^ 16

-- why boot refuses a configuration: the sizes are tested first
abbrev pub IsConfigRefused : Config → ConfigFault → Type 0
IsConfigRefused c BadSizes = ¬ HasSizes c
IsConfigRefused c BadConfig = HasSizes c × ¬ IsConfig c

-- a datagram in a receive queue, and its sender; its weight includes the mbuf for the sender's address
pub record Datagram : Type 0 where
  pub sender : Addr
  pub item : Item

-- An open socket. `local` is its address, `port` its port, and `peer` the address and port that it is connected to,
-- each set or not. `limit` is the size in bytes of its receive queue that a program has chosen (`sb_hiwat` of volume 2,
-- chapter 16), or 0. The queue has the oldest datagram first.
pub record Socket : Type 0 where
  pub fd : ℕ
  pub local : Option ℕ
  pub port : Option ℕ
  pub peer : Option Addr
  pub broadcast : Bool
  pub reuse_port : Bool
  pub limit : ℕ
  pub queue : List Datagram

-- fragments with the same key are of one datagram
abbrev pub Key : Type 0
Key = FragmentKey

-- A datagram some of whose fragments have arrived, and for how many more ticks it is kept. It holds the buffers of its
-- pieces and one more mbuf.
pub record Unfinished : Type 0 where
  pub key : Key
  pub ticks : ℕ
  pub bytes : Map

-- The whole state: `output` is the output queue, the oldest packet first, `last_port` is the ephemeral port chosen
-- last, and `next_id` the next datagram's identification.
pub record State : Type 0 where
  pub config : Config
  pub sockets : List Socket  -- the youngest first
  pub unfinished : List Unfinished
  pub output : List Item
  pub last_port : Option ℕ
  pub next_id : ℕ
  pub counters : Counters

-- the state after boot
abbrev pub boot : Config → State
boot c = record {
  config = c;
  sockets = [];
  unfinished = [];
  output = [];
  last_port = None;
  next_id = c.first_id;
  counters = no_counts;
}

-- ---- parts of a state, and states with a part changed

-- the socket with this descriptor, if one is open
abbrev pub socket_at : ℕ → State → Option Socket
socket_at fd s = find (λ socket. socket.fd == fd) s.sockets

-- the socket with this descriptor is changed
abbrev pub change_socket : ℕ → (Socket → Socket) → State → State
change_socket fd change s =
    record s { sockets = map (λ socket. if socket.fd == fd then change socket else socket) s.sockets }

-- the datagram has this key
abbrev pub is_key : Key → Unfinished → Bool
is_key k u =
    (u.key.source == k.source) && (u.key.destination == k.destination) && (u.key.id == k.id)
    && (u.key.protocol == k.protocol)

-- the unfinished datagram with this key, if there is one
abbrev pub unfinished_at : Key → State → Option Unfinished
unfinished_at k s = find (is_key k) s.unfinished

-- a datagram none of whose bytes has arrived; it is kept for 60 ticks (`IPFRAGTTL` of volume 2, chapter 10)
abbrev pub begun : Key → Unfinished
begun k = record { key = k; ticks = FRAGMENT_TICKS; bytes = empty }

-- one more unfinished datagram
abbrev pub begin_unfinished : Key → State → State
begin_unfinished k s = record s { unfinished = s.unfinished ++ begun k ∷ [] }

-- the bytes that have arrived under the key are these; the time stays
abbrev pub set_bytes : Key → Map → State → State
set_bytes k bytes s =
    record s { unfinished = map (λ u. if is_key k u then record u { bytes = bytes } else u) s.unfinished }

-- the datagram with this key is removed
abbrev pub end_unfinished : Key → State → State
end_unfinished k s = record s { unfinished = filter (λ u. not (is_key k u)) s.unfinished }

-- a packet, or one receiver's copy of it, ends here: it is counted, and only the counter changes
abbrev pub ends : Why → State → State
ends why s = record s { counters = counted why s.counters }
