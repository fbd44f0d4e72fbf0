-- How packets are counted and made, one after another (this project's own). No caller reads it.
use Rattle.std.specs.Prelude.{◌≡◌, ℕ, ◌+◌, ◌-◌, ◌*◌, ◌/◌, ◌%◌, ◌<◌, ◌≤◌, min, max, nat_lt, if◌then◌else◌, List, [], ◌∷◌, ◌++◌, length, map, take, drop, sum_by, Bool, None, Result, Ok, Err, IfOk, OnOk, OnErr}
use Rattle.std.specs.List.{range_with_len}
use Rattle.params.specs.declared.TheConstants.{FRAGMENT_UNIT, IP_HEADER, IP_MAX_PACKET, IP_UDP_HEADERS, MIN_MTU, OUTPUT_QUEUE_PACKETS, PACKET_START, UDP_HEADER, UDP_MAX_DATA}
use Rattle.flat_model.specs.Amounts.Weight.{Item}
use Rattle.flat_model.specs.Fragments.Cuts.{Part, cuts, part}
use Rattle.flat_model.specs.Machine.Sending.{later_weight}
use Rattle.mbuf_chain.specs.Chain.{Entry, PoolView, ChainView, IsLive, chain_of, held_mbufs, string, without}
use Rattle.mbuf_chain.specs.Train.{TrainView, numbers, IsHeld}
use Rattle.mbuf_chain.specs.Owners.{Moves, IsOwned, times_among}
use Rattle.chain_ops.specs.Makes.{HasMbufs, LacksMbufs}
use Rattle.chain_ops.specs.Weights.{layout_entries}
use Rattle.ip_out.specs.declared.head.IpHead.{IpHead}
use Rattle.ip_out.specs.declared.ways.Packets.{Packets}
use Rattle.ip_out.specs.declared.ways.Way.TheVariants.{Both}
use Rattle.ip_out.specs.Headings.{head_bytes}
use Rattle.ip_out.specs.Packets.{BeginPlain, IsDatagramChain, chain_parts, later_need, packets_of, part_bytes, train_packets}
use Rattle.ip_out.specs.Queues.{IsOutputQueue}
use Rattle.ip_out.specs.Ways.{way_need}

-- ---- how many mbufs of a send share a byte with its later fragments

-- 1 if the bytes from `at` up to `end` share one with a part
abbrev pub here : ℕ → ℕ → Part → ℕ
here at end p = if nat_lt (max at (IP_HEADER + p.offset)) (min end (IP_HEADER + p.offset + p.size)) then 1 else 0

-- the parts of a send of n bytes after the first
abbrev pub later_parts : ℕ → ℕ → List Part
later_parts n mtu = drop 1 (cuts (n + UDP_HEADER) mtu)

-- a send of n bytes, and the longest packet of its link
pub record IsSend (n mtu : ℕ) : Type 0 where
  pub short : n ≤ UDP_MAX_DATA
  pub least : MIN_MTU ≤ mtu
  pub top : mtu ≤ 65535

-- m is the number of the later parts, and c their length: how many of them share a byte with a range of the datagram
pub record Counts (n mtu c m : ℕ) : Type 0 where
  pub parts : m ≡ length (later_parts n mtu)
  pub counts : (at end : ℕ) → at < end → end ≤ IP_UDP_HEADERS + n
      → sum_by (here at end) (later_parts n mtu) ≡ (end - (IP_HEADER + 1)) / c - ((at - IP_HEADER) / c - 1)

-- ---- packets

-- an mbuf with a header at the front of its data space
abbrev pub head_entry : IpHead → Entry
head_entry h = record { bytes = head_bytes h; start = PACKET_START; cluster = None }

-- the packet of a later part
abbrev pub later_item : ChainView → IpHead → Part → Item
later_item v h p =
    record { bytes = part_bytes h (drop IP_HEADER (string v)) p; weight = later_weight (layout_entries v.entries) p }

-- the parts after the first, up to part i
abbrev pub parts_to : ℕ → ℕ → ℕ → List Part
parts_to n c i = map (part n c) (range_with_len 1 (i - 1))

-- from p to q the packets of these later parts were made
pub record IsLater (p q : PoolView) (t : TrainView) (v : ChainView) (h : IpHead) (parts : List Part) : Type 0 where
  pub held : IsHeld q t
  pub moves : Moves p [] q (numbers q t)
  pub items : train_packets q t ≡ map (later_item v h) parts
  pub plain : BeginPlain q t

-- chain c has a datagram after the room for its header, n bytes with it
pub record HasDatagram (p : PoolView) (c n : ℕ) : Type 0 where
  pub live : IsLive p c
  pub datagram : IsDatagramChain (chain_of p c)
  pub len : n ≡ length (string (chain_of p c))

-- from p to q the packets of chain c were made
pub record IsPacked (p : PoolView) (c : ℕ) (h : IpHead) (mtu : ℕ) (q : PoolView) (t : TrainView) : Type 0 where
  pub held : IsHeld q t
  pub packets : train_packets q t ≡ packets_of (chain_of p c) h mtu
  pub plain : BeginPlain q t
  pub moves : Moves p (c ∷ []) q (numbers q t)
  pub count : held_mbufs q ≡ held_mbufs p + later_need (chain_of p c) mtu
  pub enough : HasMbufs p (later_need (chain_of p c) mtu)

-- too few mbufs are free for them: the chain was freed
pub record IsNotPacked (p : PoolView) (c mtu : ℕ) (q : PoolView) : Type 0 where
  pub err : LacksMbufs p (later_need (chain_of p c) mtu)
  pub freed : q ≡ without p c

module _ {E : Type 0} where
  abbrev pub Packs : PoolView → ℕ → IpHead → ℕ → PoolView → Result TrainView E → Type 0
  Packs p c h mtu q (Ok t) = IsPacked p c h mtu q t
  Packs p c h mtu q (Err e) = IsNotPacked p c mtu q

-- chain c has a datagram, and is to be cut into packets of at most mtu bytes
pub record CanCut (p : PoolView) (c mtu : ℕ) : Type 0 where
  pub live : IsLive p c
  pub datagram : IsDatagramChain (chain_of p c)
  pub least : MIN_MTU ≤ mtu

-- from p to q the packets of chain c were made, and those of its copy
pub record IsBothWays {E : Type 0} (p : PoolView) (c : ℕ) (h : IpHead) (mtu : ℕ) (q : PoolView) (r : Result Packets E)
    : Type 0 where
  pub link : IfOk r (λ s. train_packets q s.link ≡ packets_of (chain_of p c) h mtu)
  pub looped : IfOk r (λ s. train_packets q s.looped ≡ packets_of (chain_of p c) h mtu)
  pub cut : IfOk r (λ s. s.is_cut ≡ nat_lt 1 (length (chain_parts (chain_of p c) mtu)))
  pub held : IfOk r (λ s. IsHeld q s.link × IsHeld q s.looped)
  pub plain : IfOk r (λ s. BeginPlain q s.link × BeginPlain q s.looped)
  pub moves : IfOk r (λ s. Moves p (c ∷ []) q (numbers q s.link ++ numbers q s.looped))
  pub enough : OnOk r (HasMbufs p (way_need Both (chain_of p c) mtu))
  pub err : OnErr r (LacksMbufs p (way_need Both (chain_of p c) mtu))
  pub freed : OnErr r (q ≡ without p c)

-- n bytes are cut into parts of c, k of them
pub record IsCutInto (n mtu c k : ℕ) : Type 0 where
  pub some : 0 < k
  pub least : 0 < c
  pub most : c ≤ IP_MAX_PACKET
  pub unit : c % FRAGMENT_UNIT ≡ 0
  pub parts : cuts n mtu ≡ part n c 0 ∷ parts_to n c k
  pub inside : (i : ℕ) → 0 < i → i < k → i * c < n

-- ---- the output queue

-- from p to q, packets went from a train to the end of a queue
pub record IsMoving (p : PoolView) (t u : TrainView) (q : PoolView) (t' u' : TrainView) : Type 0 where
  pub queue : IsHeld q t'
  pub rest : IsHeld q u'
  pub owned : IsOwned q (numbers q t' ++ numbers q u')
  pub moves : Moves p (numbers p t ++ numbers p u) q (numbers q t' ++ numbers q u')
  pub items : train_packets q t' ++ train_packets q u' ≡ train_packets p t ++ train_packets p u
  pub plain : BeginPlain p t → BeginPlain p u → BeginPlain q t' × BeginPlain q u'
  pub room : t'.len ≤ OUTPUT_QUEUE_PACKETS

-- from p to q, all packets of a train went to the end of a queue, up to the 50th; if there were more, some were lost
pub record IsEnqueued (p : PoolView) (t u : TrainView) (q : PoolView) (t' : TrainView) (lost : Bool) : Type 0 where
  pub packets : train_packets q t' ≡ take OUTPUT_QUEUE_PACKETS (train_packets p t ++ train_packets p u)
  pub is_lost : lost ≡ nat_lt OUTPUT_QUEUE_PACKETS (length (train_packets p t ++ train_packets p u))
  pub plain : BeginPlain p t → BeginPlain p u → BeginPlain q t'
  pub queue : IsOutputQueue q t'
  pub moves : Moves p (numbers p t ++ numbers p u) q (numbers q t')

-- a datagram of n bytes in chain c, which isn't in the queue
pub record CanPush (p : PoolView) (t : TrainView) (c n : ℕ) : Type 0 where
  pub queue : IsOutputQueue p t
  pub has : HasDatagram p c n
  pub apart : times_among c (numbers p t) ≡ 0

-- from p to q, it went to the end of the queue as one packet, or was lost because 50 were queued
pub record IsPushed (p : PoolView) (t : TrainView) (c : ℕ) (h : IpHead) (n : ℕ) (q : PoolView) (t' : TrainView)
    (lost : Bool) : Type 0 where
  pub packets : (mtu : ℕ) → n ≤ mtu → train_packets q t'
      ≡ take OUTPUT_QUEUE_PACKETS (train_packets p t ++ packets_of (chain_of p c) h mtu)
  pub is_lost : (mtu : ℕ) → n ≤ mtu → lost
      ≡ nat_lt OUTPUT_QUEUE_PACKETS (length (train_packets p t ++ packets_of (chain_of p c) h mtu))
  pub plain : BeginPlain p t → BeginPlain q t'
  pub queue : IsOutputQueue q t'
  pub moves : Moves p (c ∷ numbers p t) q (numbers q t')
