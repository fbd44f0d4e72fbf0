-- When no socket can starve another: how much the queues may hold by their limits (this project's own; the limits are
-- those of `sbreserve` and `sbappendaddr` of volume 2, chapter 16).
use Rattle.std.specs.Prelude.{◌≡◌, ◌⊎◌, ℕ, ◌+◌, ◌*◌, ◌/◌, ◌<◌, ◌≤◌, true, false, ◌==◌, List, [], ◌∷◌, ◌++◌, length, take, drop, sum_by, Some, None, ⊤}
use Rattle.std.specs.List.{AllByRecursion as Each}
use Rattle.params.specs.declared.TheConstants.{MSIZE, MCLBYTES, IP_HEADER, PROTOCOL_UDP}
use Rattle.flat_model.specs.Amounts.Weight.{Weight, Item, all_of, mbuf, ◌⊕◌}
use Rattle.flat_model.specs.Amounts.Layout.{Need}
use Rattle.flat_model.specs.Packets.Header.{head_of, head_fault, total_of, u16_at, udp_bytes, udp_fault}
use Rattle.flat_model.specs.Sockets.Fits.{memory_queued, memory_limit}
use Rattle.flat_model.specs.Machine.Event.{Event, IsEvent, Set_limit}
use Rattle.flat_model.specs.Machine.State.{State, Socket, Datagram, change_socket, socket_at}
use Rattle.flat_model.specs.Machine.Ledger.{reclaimed}
use Rattle.flat_model.specs.Machine.Arrival.{is_for_us, is_fragment, matching_sockets, with_datagram}
use Rattle.flat_model.specs.Machine.Step.{Step}
use Rattle.flat_model.specs.declared.address.Addr.{Addr}
use Rattle.flat_model.specs.Runs.Run.{Turn}

-- ---- the memory of a queue

-- a queue with a limit of its own is within it
abbrev pub KeepsLimit : Socket → Type 0
KeepsLimit socket = 0 < socket.limit → memory_queued socket.queue ≤ memory_limit socket.limit

abbrev pub KeepLimits : State → Type 0
KeepLimits s = Each KeepsLimit s.sockets

-- if the event sets a limit, no datagram waits in that socket's queue
abbrev pub SetsEmpty : Event → State → Type 0
SetsEmpty (Set_limit fd limit) s = Each {X = Socket} (λ socket. (socket.fd == fd) ≡ true → socket.queue ≡ []) s.sockets
SetsEmpty _ s = ⊤

-- the event sets no limit
abbrev pub SetsNone : Event → Type 0
SetsNone (Set_limit fd limit) = ⊥
SetsNone _ = ⊤

-- no socket has a limit of its own
abbrev pub AreUnset : State → Type 0
AreUnset s = Each (λ (socket : Socket). socket.limit ≡ 0) s.sockets

-- a run in which each limit is set while its queue is empty
abbrev pub LeadsEmpty : State → List Turn → State → Type 0
LeadsEmpty old [] new = new ≡ old
LeadsEmpty old (turn ∷ turns) new =
    SetsEmpty turn.event old × IsEvent turn.event × (mid : State) × Step old turn.event turn.reply mid
    × LeadsEmpty mid turns new

-- ---- what the queues may hold

-- a queue of this limit holds at most as many mbufs, and mbufs with clusters, as its memory pays for
abbrev pub allowed : ℕ → Need
allowed limit = record {
  mbufs = memory_limit limit / MSIZE;
  clusters = memory_limit limit / (MSIZE + MCLBYTES);
}

-- a queue holds no more mbufs, and no more references to clusters
pub record HoldsAtMost (most : Need) (queue : List Datagram) : Type 0 where
  pub mbufs : (all_of (λ (d : Datagram). d.item.weight) queue).mbufs ≤ most.mbufs
  pub references : length (all_of (λ (d : Datagram). d.item.weight) queue).bag ≤ most.clusters

-- Each socket has a limit, and the pool has room for all that these allow, for the output queue as it is, and for this
-- need. Unfinished datagrams don't count: they are dropped if buffers are lacking.
pub record PoolHasRoom (need : Need) (s : State) : Type 0 where
  pub limits : Each (λ (socket : Socket). 0 < socket.limit) s.sockets
  pub mbufs : sum_by (λ (socket : Socket). (allowed socket.limit).mbufs) s.sockets
      + (all_of (λ (item : Item). item.weight) s.output).mbufs + need.mbufs ≤ s.config.mbufs
  pub clusters : sum_by (λ (socket : Socket). (allowed socket.limit).clusters) s.sockets
      + length (all_of (λ (item : Item). item.weight) s.output).bag + need.clusters ≤ s.config.clusters

-- the buffers that a step holds, and those that it tests for
abbrev pub held_and : Weight → Need → Need
held_and held need = record { mbufs = held.mbufs + need.mbufs; clusters = length held.bag + need.clusters }

-- the datagram is in the queue, perhaps after the unfinished ones were dropped
pub record IsQueuedFor (to : Socket) (sender : Addr) (item : Item) (s new : State) : Type 0 where
  pub mid : State
  pub from : (mid ≡ s) ⊎ (mid ≡ reclaimed s)
  pub queued : new ≡ change_socket to.fd (with_datagram
      (record { sender = sender; item = record item { weight = mbuf ⊕ item.weight } })) mid

-- ---- a packet with a whole datagram for one socket

-- its bytes after the IP header
abbrev pub datagram_in : List ℕ → List ℕ
datagram_in packet = drop IP_HEADER (take (total_of packet) packet)

abbrev pub sender_in : List ℕ → Addr
sender_in packet = record { ip = (head_of packet).source; port = u16_at 0 (datagram_in packet) }

-- the packet has no fault, isn't a fragment, and this socket alone receives its datagram
pub record IsWholeFor (s : State) (packet : List ℕ) (to : Socket) : Type 0 where
  pub sound : head_fault packet ≡ None
  pub ours : is_for_us s.config (head_of packet).destination ≡ true
  pub whole : is_fragment (head_of packet) ≡ false
  pub udp : ((head_of packet).protocol == PROTOCOL_UDP) ≡ true
  pub right : udp_fault (head_of packet).source (head_of packet).destination (datagram_in packet) ≡ None
  pub one : matching_sockets s (head_of packet).destination (record {
    local = Some (head_of packet).destination;
    port = Some (u16_at 2 (datagram_in packet));
    peer = Some (sender_in packet);
  }) ≡ to ∷ []

-- the memory of buffers
abbrev pub memory_of_need : Need → ℕ
memory_of_need need = MSIZE * need.mbufs + MCLBYTES * need.clusters

-- with an mbuf for the sender's address
abbrev pub with_address : Need → Need
with_address need = record need { mbufs = need.mbufs + 1 }

-- the packet's datagram is the last one in this socket's queue
pub record IsQueuedLast (packet : List ℕ) (to : Socket) (new : State) : Type 0 where
  pub me : Socket
  pub found : socket_at to.fd new ≡ Some me
  pub weight : Weight
  pub queue : me.queue ≡ to.queue ++ record {
    sender = sender_in packet;
    item = record { bytes = udp_bytes (datagram_in packet); weight = weight };
  } ∷ []
