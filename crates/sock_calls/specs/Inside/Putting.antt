-- A send step by step: its packets, and the queues that hold them (this project's own).
use Rattle.std.specs.Prelude.{◌≡◌, ◌≢◌, ℕ, ◌+◌, ◌≤◌, ◌%◌, ◌==◌, nat_lt, Bool, true, false, if◌then◌else◌, List, [], ◌++◌, length, take, drop, count_by}
use Rattle.params.specs.declared.TheConstants.{MIN_MTU, LOOPBACK, CLUSTER_LEADING_SPACE, IP_HEADER, IP_UDP_HEADERS, OUTPUT_QUEUE_PACKETS, IP_DEFAULT_TTL, PROTOCOL_UDP}
use Rattle.flat_model.specs.Machine.Count.{counts_more}
use Rattle.flat_model.specs.Amounts.Layout.{user, sent, entries_on, is_cluster}
use Rattle.flat_model.specs.Machine.Send.{need_to, to_link, to_self}
use Rattle.flat_model.specs.Machine.Sending as flat
use Rattle.flat_model.specs.declared.address.Addr.{Addr}
use Rattle.flat_model.specs.declared.config.Config.{Config}
use Rattle.flat_model.specs.declared.counter.Counter.TheVariants.{IpLocalout, IpFragmented, OutDropped}
use Rattle.flat_model.specs.declared.counters.Counters.{Counters}
use Rattle.mbuf_chain.specs.Chain.{Entry, PoolView, Adds, alone, chain_of, held_mbufs, string}
use Rattle.mbuf_chain.specs.Owners.{Moves}
use Rattle.mbuf_chain.specs.Train.{TrainView, IsHeld, numbers}
use Rattle.chain_ops.specs.Prepends.{prepended}
use Rattle.chain_ops.specs.Stored.{AreFree, stored_first}
use Rattle.chain_ops.specs.Weights.{layout_entries}
use Rattle.ip_out.specs.Packets.{train_packets, BeginPlain}
use Rattle.ip_out.specs.Queues.{IsOutputQueue}
use Rattle.ip_out.specs.declared.head.IpHead.{IpHead}
use Rattle.ip_out.specs.declared.sending.Sent.{Sent}
use Rattle.ip_out.specs.declared.ways.Way.{Way}
use Rattle.ip_out.specs.declared.ways.Way.TheVariants.{Link, Loopback, Both}
use Rattle.pcb_table.specs.Table.{Table, KeepsOpen}
use Rattle.pcb_table.specs.Found.{EnsuresPort, SendsFrom}
use Rattle.ledger.specs.Reserve.{are_free}
use Rattle.sock_calls.specs.declared.net.Net.{Net}
use Rattle.sock_calls.specs.declared.packets.Heading.{Heading}

-- the part of a machine's configuration that a send reads, with these blocks and this link
abbrev pub send_config : Table → ℕ → Config
send_config t mtu = record { addr = t.addr; bcast = t.bcast; mtu = mtu; mbufs = 0; clusters = 0; first_id = 0 }

-- its two addresses differ, the broadcast address isn't 127.0.0.1, and the MTU is at least 68
pub record IsRouted (c : Config) : Type 0 where
  pub mtu : MIN_MTU ≤ c.mtu
  pub apart : c.bcast ≢ c.addr
  pub outside : c.bcast ≢ LOOPBACK

-- where packets to an address go
abbrev pub way_of : Config → ℕ → Way
way_of c ip = if flat.is_looped c ip then Loopback else (if ip == c.bcast then Both else Link)

-- the buffers of a send of n bytes to this address are free
abbrev pub IsFreeFor : PoolView → Config → ℕ → ℕ → Type 0
IsFreeFor p c ip n = are_free p (need_to c ip n).mbufs (need_to c ip n).clusters ≡ true

-- the packets sent, with the header fields `heading`
abbrev pub sent_as : Heading → List ℕ → flat.Sending
sent_as h bytes = record { id = h.id; source = h.source; to = h.to; port = h.port; bytes = bytes }

-- the IP header of all its packets, except for their lengths and offsets
abbrev pub head_as : Heading → IpHead
head_as h = record {
  tos = 0;
  total = 0;
  id = h.id;
  dont = false;
  more = false;
  offset = 0;
  ttl = IP_DEFAULT_TTL;
  proto = PROTOCOL_UDP;
  src = h.source;
  dst = h.to.ip;
}

-- the mbufs of a send, and where its bytes begin in each: those of `from_user`, with the headers put in front as by
-- `m_prepend`
abbrev pub sent_entries : List ℕ → List ℕ → List ℕ → List Entry
sent_entries clusters headers bytes = prepended (record {
  front = alone true;
  entries = stored_first CLUSTER_LEADING_SPACE true clusters (user (length bytes)) bytes;
  cells = [];
}) headers

-- From p to q chain c was made, of bytes after 28 for the headers, in the layout of a send of these bytes, with
-- clusters that were free.
pub record IsSendLaidOut (p : PoolView) (bytes clusters : List ℕ) (q : PoolView) (c : ℕ) : Type 0 where
  pub number : length clusters ≡ count_by is_cluster (sent (length bytes))
  pub free : AreFree p clusters
  pub made : Adds p q c (chain_of q c)
  pub headed : (chain_of q c).front.header ≡ true
  pub headers : List ℕ
  pub entries : (chain_of q c).entries ≡ sent_entries clusters headers bytes
  pub placed : layout_entries (chain_of q c).entries ≡ entries_on clusters (sent (length bytes))
  pub size : length (string (chain_of q c)) ≡ length bytes + IP_UDP_HEADERS
  pub held : held_mbufs q ≡ held_mbufs p + length (sent (length bytes))

-- its data are the bytes
pub record IsStored (p : PoolView) (bytes : List ℕ) (q : PoolView) (c : ℕ) : Type 0 where
  pub clusters : List ℕ
  pub lies : IsSendLaidOut p bytes clusters q c
  pub holds : drop IP_UDP_HEADERS (string (chain_of q c)) ≡ bytes

-- after 20 bytes it is the datagram
pub record IsBuilt (p : PoolView) (x : flat.Sending) (q : PoolView) (c : ℕ) : Type 0 where
  pub clusters : List ℕ
  pub lies : IsSendLaidOut p x.bytes clusters q c
  pub datagram : drop IP_HEADER (string (chain_of q c)) ≡ flat.datagram x

-- From p and o to q and u the packets of a send were made: those in the output queue, and those that come back.
pub record AreMade (p : PoolView) (c : Config) (x : flat.Sending) (o : TrainView) (q : PoolView) (made : Sent)
    (u : TrainView) : Type 0 where
  pub clusters : List ℕ
  pub number : length clusters ≡ (need_to c x.to.ip (length x.bytes)).clusters
  pub free : AreFree p clusters
  pub out : train_packets q u ≡ take OUTPUT_QUEUE_PACKETS
      (train_packets p o ++ to_link c x.to.ip (flat.packets c clusters x))
  pub back : train_packets q made.looped ≡ to_self c x.to.ip (flat.packets c clusters x)
  pub is_cut : made.is_cut ≡ nat_lt 1 (length (flat.parts_of c x))
  pub is_lost : made.is_lost ≡ nat_lt OUTPUT_QUEUE_PACKETS
      (length (train_packets p o ++ to_link c x.to.ip (flat.packets c clusters x)))
  pub queue : IsOutputQueue q u
  pub held : IsHeld q made.looped
  pub plain : BeginPlain q made.looped
  pub moves : Moves p (numbers p o) q (numbers q made.looped ++ numbers q u)

-- the counters of a send: whether it was fragmented, and whether a packet of it was lost
abbrev pub counts_sent : Bool → Bool → Counters → Counters
counts_sent cut lost c =
    let sent : Counters = counts_more IpLocalout 1 c in
    let cut_too : Counters = if cut then counts_more IpFragmented 1 sent else sent in
    if lost then counts_more OutDropped 1 cut_too else cut_too

-- A send that has its buffers, from p, t and n to q, u and m.
pub record IsPut (fd : ℕ) (to : Addr) (bytes : List ℕ) (p : PoolView) (t : Table) (n : Net) (lost : Bool) (q : PoolView)
    (u : Table) (m : Net) : Type 0 where
  pub heading : Heading
  pub id : heading.id ≡ n.next_id
  pub to_is : heading.to ≡ to
  pub source : SendsFrom t fd to.ip heading.source
  pub port : EnsuresPort t fd heading.port u
  pub descriptors : KeepsOpen t u
  pub clusters : List ℕ
  pub number : length clusters ≡ (need_to (send_config t n.mtu) to.ip (length bytes)).clusters
  pub free : AreFree p clusters
  pub back : train_packets q m.looped ≡ to_self (send_config t n.mtu) to.ip
      (flat.packets (send_config t n.mtu) clusters (sent_as heading bytes))
  pub out : train_packets q m.out ≡ take OUTPUT_QUEUE_PACKETS
      (train_packets p n.out ++ to_link (send_config t n.mtu) to.ip
      (flat.packets (send_config t n.mtu) clusters (sent_as heading bytes)))
  pub is_lost : lost ≡ nat_lt OUTPUT_QUEUE_PACKETS
      (length (train_packets p n.out ++ to_link (send_config t n.mtu) to.ip
      (flat.packets (send_config t n.mtu) clusters (sent_as heading bytes))))
  pub next_id : m.next_id ≡ (n.next_id + 1) % 65536
  pub counters : m.counters ≡ counts_sent (nat_lt 1
      (length (flat.parts_of (send_config t n.mtu) (sent_as heading bytes)))) lost n.counters
  pub mtu : m.mtu ≡ n.mtu
  pub queue : IsOutputQueue q m.out
  pub held : IsHeld q m.looped
  pub plain : BeginPlain q m.looped
  pub moves : Moves p (numbers p n.out) q (numbers q m.looped ++ numbers q m.out)
