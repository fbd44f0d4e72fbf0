-- The receive queue of a socket: datagrams with their senders (`sockbuf` and `sbappendaddr` of TCP/IP Illustrated,
-- volume 2, chapter 16).
use Rattle.std.specs.Prelude.{◌≡◌, ℕ, ◌+◌, ◌*◌, ◌<◌, Bool, true, false, List, [], ◌∷◌, ◌++◌, length, map, None, Result, Ok, Err}
use Rattle.std.specs.List.{AllByRecursion as Each}
use Rattle.params.specs.declared.TheConstants.{PACKET_START, SOCKADDR_BYTES}
use Rattle.flat_model.specs.Amounts.Weight.{Weight, nothing, mbuf, ◌⊕◌}
use Rattle.flat_model.specs.Packets.Header.{u16_at, u32_at, two_bytes, four_bytes}
use Rattle.flat_model.specs.Machine.State.{Datagram}
use Rattle.flat_model.specs.Sockets.Fits.{bytes_queued, memory_of, memory_queued, fits}
use Rattle.flat_model.specs.declared.address.Addr.{Addr}
use Rattle.mbuf_chain.specs.Chain.{Entry, PoolView, IsLive, alone, chain_of, flat_bytes, held_mbufs, string}
use Rattle.mbuf_chain.specs.Owners.{times_among, Moves}
use Rattle.mbuf_chain.specs.Train.{TrainView, QueuedPacket, queued_packets, numbers, IsHeld}
use Rattle.ledger.specs.Accounts.{entries_weight, weight_at}
use Rattle.sockbuf.specs.declared.buffer.Refusal.{Refusal}
use Rattle.sockbuf.specs.declared.buffer.Refusal.TheVariants.{Full, NoBufs}

-- what contracts see of a queue: its train, and the two sums that it keeps
pub record SockBufView : Type 0 where
  pub train : TrainView
  pub cc : ℕ
  pub mbcnt : ℕ

-- an empty queue
abbrev pub no_datagrams : SockBufView
no_datagrams = record { train = record { first = None; last = None; len = 0 }; cc = 0; mbcnt = 0 }

-- ---- a sender's address in an mbuf

-- Sixteen bytes (`sockaddr_in` of volume 2, chapter 6): the length, 2 for the Internet address family, the port, the
-- address, and eight zeros.
abbrev pub sockaddr_bytes : Addr → List ℕ
sockaddr_bytes a = SOCKADDR_BYTES ∷ 2 ∷ two_bytes a.port ++ four_bytes a.ip ++ 0 ∷ 0 ∷ 0 ∷ 0 ∷ 0 ∷ 0 ∷ 0 ∷ 0 ∷ []

-- the address that sixteen such bytes encode
abbrev pub sockaddr_in : List ℕ → Addr
sockaddr_in bytes = record { ip = u32_at 4 bytes; port = u16_at 2 bytes }

-- the mbuf before a datagram
abbrev pub address_entry : Addr → Entry
address_entry a = record { bytes = sockaddr_bytes a; start = PACKET_START; cluster = None }

-- ---- the datagrams of a queue

-- the datagram that the mbufs of a queued chain represent: the first contains the sender's address
abbrev pub queued_datagram : List Entry → Datagram
queued_datagram [] = record { sender = record { ip = 0; port = 0 }; item = record { bytes = []; weight = nothing } }
queued_datagram (front ∷ es) =
    record {
      sender = sockaddr_in front.bytes;
      item = record { bytes = flat_bytes es; weight = mbuf ⊕ entries_weight es };
    }

-- the first mbuf contains an address, and at least one more follows
abbrev pub IsDatagram : List Entry → Type 0
IsDatagram [] = ⊥
IsDatagram (front ∷ es) = (front ≡ address_entry (sockaddr_in front.bytes)) × (0 < length es)

abbrev pub datagrams_of : List QueuedPacket → List Datagram
datagrams_of cs = map (λ (queued_packet : QueuedPacket). queued_datagram queued_packet.entries) cs

-- the datagrams of a queue, the oldest first
abbrev pub datagrams : PoolView → SockBufView → List Datagram
datagrams p b = datagrams_of (queued_packets p b.train)

-- the numbers of its chains
abbrev pub chains_of : PoolView → SockBufView → List ℕ
chains_of p b = numbers p b.train

-- the queue and the pool fit together
pub record IsSockBuf (p : PoolView) (b : SockBufView) : Type 0 where
  pub held : IsHeld p b.train
  pub each : Each (λ (queued_packet : QueuedPacket). IsDatagram queued_packet.entries) (queued_packets p b.train)
  pub cc : b.cc ≡ bytes_queued (datagrams p b)
  pub mbcnt : b.mbcnt ≡ memory_queued (datagrams p b)

-- ---- the effects of the calls

-- the datagram of chain c after it is queued: its weight includes the mbuf of the address
abbrev pub datagram_from : Addr → PoolView → ℕ → Datagram
datagram_from sender p c =
    record { sender = sender; item = record { bytes = string (chain_of p c); weight = mbuf ⊕ weight_at p c } }

-- a queued chain with this number, which has no tag: the mbuf of the sender's address, and these after it
abbrev pub packet_from : ℕ → Addr → List Entry → QueuedPacket
packet_from number sender es = record { number = number; entries = address_entry sender ∷ es; tag = 0 }

-- chain c of n bytes can be appended to a queue of this limit, after an mbuf with its sender's address
pub record CanAppend (limit : ℕ) (p : PoolView) (b : SockBufView) (c n : ℕ) : Type 0 where
  pub ready : IsSockBuf p b
  pub live : IsLive p c
  pub apart : times_among c (chains_of p b) ≡ 0
  pub len : n ≡ length (string (chain_of p c))
  pub fits : fits limit (datagrams p b) n (memory_of (weight_at p c)) ≡ true
  pub free : held_mbufs p < p.mbufs

-- Chain c, sent by `sender`, was appended: it's the newest datagram, and its bytes are where they were in its mbufs.
pub record Appended (p : PoolView) (b : SockBufView) (c : ℕ) (sender : Addr) (q : PoolView) (d : SockBufView) : Type 0
  where
    pub datagrams : datagrams q d ≡ datagrams p b ++ datagram_from sender p c ∷ []
    pub newest : (number : ℕ) × (queued_packets q d.train
        ≡ queued_packets p b.train ++ packet_from number sender (chain_of p c).entries ∷ [])
    pub ready : IsSockBuf q d
    pub moves : Moves p (c ∷ chains_of p b) q (chains_of q d)

-- nothing changed, and chain c is handed back
pub record IsRefused (p : PoolView) (b : SockBufView) (c back : ℕ) (q : PoolView) (d : SockBufView) : Type 0 where
  pub chain : back ≡ c
  pub pool : q ≡ p
  pub queue : d ≡ b

-- whether chain c fits into the queue, which has this limit
abbrev pub fits_chain : ℕ → PoolView → SockBufView → ℕ → Bool
fits_chain limit p b c = fits limit (datagrams p b) (length (string (chain_of p c))) (memory_of (weight_at p c))

-- Chain c, sent by `sender`, is the newest datagram of the queue, which has this limit; or it doesn't fit; or no mbuf
-- is free for the address.
abbrev pub AppendsAddr : ℕ → PoolView → SockBufView → Addr → ℕ → Result Unit (ℕ × Refusal) → PoolView → SockBufView
    → Type 0
AppendsAddr limit p b sender c (Ok done) q d =
    (fits_chain limit p b c ≡ true) × (held_mbufs p < p.mbufs)
    × (datagrams q d ≡ datagrams p b ++ datagram_from sender p c ∷ []) × Moves p (c ∷ chains_of p b) q (chains_of q d)
AppendsAddr limit p b sender c (Err (back, Full)) q d =
    (fits_chain limit p b c ≡ false) × IsRefused p b c back q d
AppendsAddr limit p b sender c (Err (back, NoBufs)) q d =
    (fits_chain limit p b c ≡ true) × (held_mbufs p ≡ p.mbufs) × IsRefused p b c back q d

-- The oldest datagram, with this sender and the entries of chain c, was removed, and its mbuf for the address freed.
-- The chain has no packet header and is in no train.
pub record TakesOldest (p : PoolView) (b : SockBufView) (sender : Addr) (c : ℕ) (q : PoolView) (d : SockBufView) : Type
    0 where
  pub datagrams : datagrams p b ≡ datagram_from sender q c ∷ datagrams q d
  pub front : (chain_of q c).front ≡ alone false
  pub moves : Moves p (chains_of p b) q (c ∷ chains_of q d)

-- the queue was empty
pub record IsEmpty (p : PoolView) (b : SockBufView) (q : PoolView) (d : SockBufView) : Type 0 where
  pub none : datagrams p b ≡ []
  pub pool : q ≡ p
  pub queue : d ≡ b
