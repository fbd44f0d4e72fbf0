-- A datagram in a chain: what is written of it when it's sent, and what happens to one that arrives (RFC 768;
-- `udp_output` and `udp_input` of TCP/IP Illustrated, volume 2, chapter 23).
use Rattle.std.specs.Prelude.{◌≡◌, ◌⊎◌, ℕ, ◌<◌, ◌≤◌, ◌==◌, if◌then◌else◌, List, [], ◌∷◌, length, take, drop, map, All, Option, Some, None}
use Rattle.params.specs.declared.TheConstants.{IP_HEADER, IP_UDP_HEADERS, PROTOCOL_UDP, UDP_HEADER}
use Rattle.flat_model.specs.declared.lookup_key.LookupKey.{LookupKey}
use Rattle.flat_model.specs.Amounts.Weight.{times}
use Rattle.flat_model.specs.Machine.State.{State}
use Rattle.flat_model.specs.Packets.Header.{udp, udp_fault, udp_bytes, u16_at}
use Rattle.flat_model.specs.Machine.Arrival.{matching_sockets, no_port}
use Rattle.flat_model.specs.declared.address.Addr.{Addr}
use Rattle.flat_model.specs.declared.counters.Why.{Why}
use Rattle.flat_model.specs.declared.counters.Why.TheVariants.{NoProtocol}
use Rattle.mbuf_chain.specs.Chain.{ChainView, PoolView, chain_of, entry_of, string, with_chain, without}
use Rattle.mbuf_chain.specs.Steps.{overwritten, with_entry}
use Rattle.chain_ops.specs.Trims.{only_first, without_first}
use Rattle.ip_out.specs.declared.head.IpHead.{IpHead}
use Rattle.pcb_table.specs.declared.block.Block.{Block}
use Rattle.pcb_table.specs.Table.{Queues, Table, block_at, machine, packet_key, socket_with}
use Rattle.udp.specs.declared.arrival.Outcome.{Outcome}
use Rattle.udp.specs.declared.arrival.Outcome.TheVariants.{Deliver, Drop}

-- ---- sent

-- a packet whose UDP header is written: 8 bytes of the first mbuf, after the 20 of the IP header
abbrev pub with_udp_header : ℕ → ℕ → ℕ → ℕ → ChainView → ChainView
with_udp_header src dst sport dport v =
    with_entry v 0 (overwritten (entry_of v 0) IP_HEADER
    (take UDP_HEADER (udp src dst sport dport (drop IP_UDP_HEADERS (string v)))))

-- ---- received

-- a datagram of n bytes trimmed to its data: the bytes after them are removed, and then the header; no mbuf is
abbrev pub without_header : ℕ → ChainView → ChainView
without_header n v = record v { entries = without_first UDP_HEADER (only_first n v.entries) }

abbrev pub sender_of : IpHead → List ℕ → Addr
sender_of h s = record { ip = h.src; port = u16_at 0 s }

-- the lookup key of a datagram: its four values
abbrev pub key_by : IpHead → List ℕ → LookupKey
key_by h s = packet_key h.dst (u16_at 2 s) (sender_of h s)

-- the fault for which it's dropped before the lookup
abbrev pub fault_of : IpHead → List ℕ → Option Why
fault_of h s = if h.proto == PROTOCOL_UDP then udp_fault h.src h.dst s else Some NoProtocol

-- In each machine that has these blocks, exactly the sockets of these descriptors match, in this order.
pub record AreMatching (t : Table) (destination : ℕ) (q : LookupKey) (fds : List ℕ) : Type 0 where
  pub found : List Block
  pub named : fds ≡ map (λ b. b.fd) found
  pub once : (fd : ℕ) → times fd fds ≤ 1
  pub are_open : All (λ b. block_at b.fd t ≡ Some b) found
  pub sockets : (rest : State) (queues : Queues)
      → matching_sockets (machine rest queues t) destination q ≡ map (socket_with queues) found

-- From p to q, chain c became the data of a datagram for these sockets.
pub record IsForSockets (p : PoolView) (c : ℕ) (h : IpHead) (t : Table) (q : PoolView) (to : List ℕ) (from : Addr)
    (d : ℕ) : Type 0 where
  pub faultless : fault_of h (string (chain_of p c)) ≡ None
  pub sender : from ≡ sender_of h (string (chain_of p c))
  pub matched : AreMatching t h.dst (key_by h (string (chain_of p c))) to
  pub some : 0 < length to
  pub same : d ≡ c
  pub chain : q ≡ with_chain p c (without_header (u16_at 4 (string (chain_of p c))) (chain_of p c))
  pub bytes : string (chain_of q c) ≡ udp_bytes (string (chain_of p c))

-- no socket matches, and this is the cause that counts it
pub record IsUnmatched (h : IpHead) (t : Table) (s : List ℕ) (why : Why) : Type 0 where
  pub faultless : fault_of h s ≡ None
  pub matched : AreMatching t h.dst (key_by h s) []
  pub counted : (rest : State) (queues : Queues) → why ≡ no_port (machine rest queues t) h.dst

-- from p to q, chain c was freed, for this cause
pub record IsDropped (p : PoolView) (c : ℕ) (h : IpHead) (t : Table) (q : PoolView) (why : Why) : Type 0 where
  pub cause : (fault_of h (string (chain_of p c)) ≡ Some why) ⊎ IsUnmatched h t (string (chain_of p c)) why
  pub freed : q ≡ without p c

-- what happens to a datagram, and the descriptors of the sockets that receive it
abbrev pub IsUdpInput : PoolView → ℕ → IpHead → Table → PoolView → List ℕ → Outcome → Type 0
IsUdpInput p c h t q to (Deliver from chain) = IsForSockets p c h t q to from chain
IsUdpInput p c h t q to (Drop why) = (to ≡ []) × IsDropped p c h t q why

-- the chains that the caller has then
abbrev pub outcome_chains : Outcome → List ℕ
outcome_chains (Deliver from chain) = chain ∷ []
outcome_chains (Drop why) = []
