-- What holds in every state that the machine reaches, so that its accounts are never overdrawn (this project's own).
use Rattle.std.specs.Prelude.{◌≡◌, ℕ, ◌+◌, ◌-◌, ◌/◌, ◌<◌, ◌≤◌, true, ◌==◌, length, count_by, Some, None}
use Rattle.std.specs.List.{AllByRecursion as Each}
use Rattle.params.specs.declared.TheConstants.{FIRST_DESCRIPTOR, MAX_SOCKETS, MSIZE, MOST_RECEIVE_SPACE, IP_MAX_DATA, FRAGMENT_TICKS, OUTPUT_QUEUE_PACKETS, FIRST_EPHEMERAL_PORT, LAST_EPHEMERAL_PORT}
use Rattle.flat_model.specs.Amounts.Weight.{Weight, Item, Covers, mbuf, ◌⊕◌}
use Rattle.flat_model.specs.Fragments.Overlay.{Map, Held}
use Rattle.flat_model.specs.Sockets.Fits.{bytes_queued}
use Rattle.flat_model.specs.Machine.State.{IsConfig, State, Socket, Datagram, Key, Unfinished, is_key}
use Rattle.flat_model.specs.Machine.Calls.{is_ours, is_reached}
use Rattle.flat_model.specs.Machine.Ledger.{weight_of_state}
use Rattle.flat_model.specs.declared.address.Addr.{Addr}
use Rattle.flat_model.specs.declared.config.Config.{Config}

-- a weight that has space for n bytes, in clusters of the pool
pub record Carries (c : Config) (w : Weight) (n : ℕ) : Type 0 where
  pub covers : Covers w n
  pub exist : Each (λ k. k < c.clusters) w.bag

-- a datagram in a receive queue has an mbuf for the sender's address, and space for its bytes
pub record IsQueued (c : Config) (d : Datagram) : Type 0 where
  pub own : Weight
  pub with_address : d.item.weight ≡ mbuf ⊕ own
  pub carries : Carries c own (length d.item.bytes)

-- the address that a socket is connected to: an interface leads there
pub record IsPeer (a : Addr) : Type 0 where
  pub is_there : is_reached a.ip ≡ true
  pub some_port : 1 ≤ a.port
  pub port : a.port < 65536

-- An open socket, with its queue within the largest limits. A socket with a local address or a peer has a port.
pub record IsSocket (c : Config) (socket : Socket) : Type 0 where
  pub least_fd : FIRST_DESCRIPTOR ≤ socket.fd
  pub greatest_fd : socket.fd ≤ FIRST_DESCRIPTOR + MAX_SOCKETS - 1
  pub local : (ip : ℕ) → socket.local ≡ Some ip → is_ours c ip ≡ true
  pub port : (p : ℕ) → socket.port ≡ Some p → (1 ≤ p) × (p < 65536)
  pub peer : (a : Addr) → socket.peer ≡ Some a → IsPeer a
  pub unbound : socket.port ≡ None → (socket.local ≡ None) × (socket.peer ≡ None)
  pub queue : Each (IsQueued c) socket.queue
  pub limit : socket.limit ≤ MOST_RECEIVE_SPACE
  pub queued_bytes : bytes_queued socket.queue ≤ MOST_RECEIVE_SPACE
  pub queued : length socket.queue ≤ (MOST_RECEIVE_SPACE + 1) / MSIZE

-- The byte at an offset belongs to a piece without gaps from its first offset on, which has space for it.
pub record IsConsistentAt (c : Config) (bytes : Map) (offset : ℕ) (held : Held) : Type 0 where
  pub inside : offset < IP_MAX_DATA
  pub first : held.piece.first ≤ offset
  pub filled : (k : ℕ) → held.piece.first ≤ k → k ≤ offset → (h : Held) × (bytes k ≡ Some h) × (h.piece ≡ held.piece)
  pub carries : Carries c held.piece.weight (offset + 1 - held.piece.first)

abbrev pub IsMap : Config → Map → Type 0
IsMap c bytes = (offset : ℕ) (held : Held) → bytes offset ≡ Some held → IsConsistentAt c bytes offset held

pub record IsWaiting (c : Config) (u : Unfinished) : Type 0 where
  pub some_ticks : 1 ≤ u.ticks
  pub ticks : u.ticks ≤ FRAGMENT_TICKS
  pub bytes : IsMap c u.bytes

-- a packet in the output queue fits the link
pub record IsOutput (c : Config) (item : Item) : Type 0 where
  pub carries : Carries c item.weight (length item.bytes)
  pub fits : length item.bytes ≤ c.mtu

-- All numbers are within their limits, descriptors and keys differ, and no more buffers are held than exist.
pub record IsConsistent (s : State) : Type 0 where
  pub config : IsConfig s.config
  pub sockets : Each (IsSocket s.config) s.sockets
  pub few : length s.sockets ≤ MAX_SOCKETS
  pub distinct : (fd : ℕ) → count_by (λ socket. socket.fd == fd) s.sockets ≤ 1
  pub unfinished : Each (IsWaiting s.config) s.unfinished
  pub keys : (k : Key) → count_by (is_key k) s.unfinished ≤ 1
  pub output : Each (IsOutput s.config) s.output
  pub short : length s.output ≤ OUTPUT_QUEUE_PACKETS
  pub last_port : (p : ℕ) → s.last_port ≡ Some p → (FIRST_EPHEMERAL_PORT ≤ p) × (p ≤ LAST_EPHEMERAL_PORT)
  pub next_id : s.next_id < 65536
  pub mbufs : (weight_of_state s).mbufs ≤ s.config.mbufs
  pub clusters : Each (λ k. k < s.config.clusters) (weight_of_state s).bag
