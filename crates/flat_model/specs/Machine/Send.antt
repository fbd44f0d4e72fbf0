-- A send: its errors in order, its packets, and their routes (`sosend`, `udp_output` and `ip_output` of volume 2,
-- chapters 16, 23, 8 and 10). The order of the errors is this project's own, and so is that an error changes nothing,
-- with ENOBUFS as the exception. If the pool lacks buffers, the test has dropped all unfinished datagrams. If the
-- output queue is full, the port is chosen and the identification used up, and the first packets may be in the queue.
use Rattle.std.specs.Prelude.{◌≡◌, ℕ, ◌+◌, ◌%◌, Bool, ◌==◌, nat_lt, ◌&&◌, ◌||◌, not, if◌then◌else◌, List, [], ◌∷◌, ◌++◌, take, length, Option, Some, None, is_some, is_none, unwrap_or}
use Rattle.params.specs.declared.TheConstants.{IP_UDP_HEADERS, UDP_SEND_SPACE, OUTPUT_QUEUE_PACKETS}
use Rattle.flat_model.specs.Amounts.Choice.{Choice}
use Rattle.flat_model.specs.Amounts.Weight.{Item, nothing}
use Rattle.flat_model.specs.Fragments.Cuts.{Part}
use Rattle.flat_model.specs.Amounts.Layout.{Need, need, need_bcast}
use Rattle.flat_model.specs.Machine.Count.{counts_more}
use Rattle.flat_model.specs.Machine.Event.{Reply, Sent, Refused}
use Rattle.flat_model.specs.declared.counter.Counter.TheVariants.{IpLocalout, IpFragmented, OutDropped}
use Rattle.flat_model.specs.declared.counters.Counters.{Counters}
use Rattle.flat_model.specs.declared.errno.Errno.{Errno}
use Rattle.flat_model.specs.declared.errno.Errno.TheVariants.{Access, DestinationRequired, MessageSize, IsConnected, NoBufs}
use Rattle.flat_model.specs.declared.errno.Lack.TheVariants.{Pool, Queue}
use Rattle.flat_model.specs.Machine.State.{State, Socket, change_socket}
use Rattle.flat_model.specs.declared.config.Config.{Config}
use Rattle.flat_model.specs.Machine.Calls.{Refuses, Unless, GetsPort, connect_faults, read_addr, source_for}
use Rattle.flat_model.specs.Machine.Sending.{Sending, packets, parts_of, is_looped, mtu_to}
use Rattle.flat_model.specs.Machine.Ledger.{Ledger, HasBuffers, AreTaken}
use Rattle.flat_model.specs.Machine.Arrival.{AllArrive}
use Rattle.flat_model.specs.declared.address.Addr.{Addr}

-- the destination of a send: the given address, otherwise the peer
abbrev pub target : State → Socket → Option Addr → Addr
target s me None = unwrap_or me.peer (record { ip = 0; port = 0 })
target s me (Some a) = read_addr s.config a

-- the errors for an address that was given
abbrev pub address_faults : State → Socket → Option Addr → List (Bool × Errno)
address_faults s me None = []
address_faults s me (Some a) = (is_some me.peer, IsConnected) ∷ connect_faults s me (read_addr s.config a)

-- the errors of a send of n bytes, before its buffers; the last two are those of a broadcast, which isn't fragmented
abbrev pub send_faults : State → Socket → Option Addr → ℕ → List (Bool × Errno)
send_faults s me to n =
    let to_all : Bool = (target s me to).ip == s.config.bcast in
    (is_none to && is_none me.peer, DestinationRequired)
    ∷ (nat_lt UDP_SEND_SPACE n, MessageSize)
    ∷ []
    ++ address_faults s me to
    ++ (to_all && not me.broadcast, Access)
    ∷ (to_all && nat_lt s.config.mtu (n + IP_UDP_HEADERS), MessageSize)
    ∷ []

-- ---- the buffers that a send takes, and where its packets go

-- what a send of n bytes to this address takes
abbrev pub need_to : Config → ℕ → ℕ → Need
need_to c ip n = if ip == c.bcast then need_bcast n else need n (mtu_to c ip)

-- the packets for the link
abbrev pub to_link : Config → ℕ → List Item → List Item
to_link c ip packets = if is_looped c ip then [] else packets

-- the packets that come back: those of a send to this host, or a copy of a broadcast, which has the same weight and
-- refers to the same clusters
abbrev pub to_self : Config → ℕ → List Item → List Item
to_self c ip packets = if is_looped c ip || (ip == c.bcast) then packets else []

-- whether the output queue, which holds at most 50 packets, is too short for these
abbrev pub overflows : State → List Item → Bool
overflows s packets = nat_lt OUTPUT_QUEUE_PACKETS (length (s.output ++ packets))

-- the packets that fit are put into the output queue, the others are lost; a send that loses one counts as dropped
abbrev pub enqueued : List Item → State → State
enqueued packets s = record s {
  output = take OUTPUT_QUEUE_PACKETS (s.output ++ packets);
  counters = if overflows s packets then counts_more OutDropped 1 s.counters else s.counters;
}

-- the identification is used up, and wraps at 65,536; the send is counted, and also that it was fragmented
abbrev pub counts_send : List Part → State → State
counts_send parts s = record s {
  next_id = (s.next_id + 1) % 65536;
  counters =
      (let sent : Counters = counts_more IpLocalout 1 s.counters in if nat_lt 1 (length parts)
      then counts_more IpFragmented 1 sent else sent);
}

-- the socket keeps the port too; its address and its peer are as before
abbrev pub spent : ℕ → ℕ → List Part → State → State
spent fd port parts s = change_socket fd (λ socket. record socket { port = Some port }) (counts_send parts s)

module _ (L : Ledger) where
  -- Its packets `out` leave: first those for the link, then those that come back arrive one after another.
  abbrev pub Leaves : ℕ → List Item → Sending → State → Reply → State → Type 0
  Leaves fd out x old reply new =
      let left : State = spent fd x.port (parts_of old.config x) old in
      AllArrive L (to_self old.config x.to.ip out) (enqueued (to_link old.config x.to.ip out) left) new
      × (reply ≡ (if overflows left (to_link old.config x.to.ip out) then Refused (NoBufs Queue)
      else Sent (length x.bytes)))

  -- A send that has its buffers: a missing port is chosen, and clusters are taken.
  abbrev pub Goes : ℕ → Socket → Addr → List ℕ → State → Reply → State → Type 0
  Goes fd me to bytes old reply new =
      (port : ℕ) × (named : State) × (clusters : List ℕ)
      × GetsPort old me.local me.port port named
      × AreTaken L old (need_to old.config to.ip (length bytes)).clusters clusters
      × (let x : Sending = record {
        id = old.next_id;
        source = source_for old.config me to.ip;
        to = to;
        port = port;
        bytes = bytes;
      } in
      Leaves fd (packets named.config clusters x) x named reply new)

  -- A send by a socket: it fails with the first error, or if the pool has too few buffers; otherwise it goes.
  abbrev pub Sends : ℕ → Option Addr → List ℕ → Socket → State → Reply → State → Type 0
  Sends fd to bytes me old reply new = Unless (send_faults old me to (length bytes)) old reply new (
      let a : Addr = target old me to in
      (yes : Bool) × (mid : State)
      × HasBuffers L old nothing (need_to old.config a.ip (length bytes)) yes mid
      × Choice yes (Goes fd me a bytes mid reply new) (Refuses (NoBufs Pool) mid reply new))
