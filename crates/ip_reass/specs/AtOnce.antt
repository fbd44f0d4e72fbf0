-- A fragment from the wire that is queued directly, from the bytes of its packet. The result is the same as if the
-- packet had been stored in a cluster, and its header pulled up and cut off (`m_devget`, `m_pullup` and `m_adj` of
-- TCP/IP Illustrated, volume 2, chapter 2; `ip_reass` of chapter 10).
use Rattle.std.specs.Prelude.{◌≡◌, ℕ, ◌-◌, ◌<◌, ◌≤◌, Bool, true, not, nat_le, nat_lt, ◌==◌, ◌&&◌, List, [], ◌∷◌, length, take, drop, None, Some, if◌then◌else◌}
use Rattle.params.specs.declared.TheConstants.{IP_HEADER, MBUF_HEADER, MCLBYTES, MHLEN, MINCLSIZE, PACKET_START}
use Rattle.flat_model.specs.Amounts.Weight.{Weight}
use Rattle.flat_model.specs.Machine.State.{State}
use Rattle.flat_model.specs.Machine.Arrival.{is_bad_fragment}
use Rattle.flat_model.specs.Machine.Fate.{told}
use Rattle.flat_model.specs.declared.counters.Counters.{Counters}
use Rattle.flat_model.specs.declared.fate.Fate.{Fate}
use Rattle.mbuf_chain.specs.Chain.{ChainView, PoolView, alone, references}
use Rattle.ledger.specs.Accounts.{IsAccounted}
use Rattle.ledger.specs.Reserve.{are_free}
use Rattle.ip_out.specs.declared.head.IpHead.{IpHead}
use Rattle.ip_reass.specs.Arrivals.{GoesOn, flat_head, key_in, with_waiting}
use Rattle.ip_reass.specs.Layouts.{ChainArrives, HasCause, HasLayout, cause_of, fragment_carried, queues, under}
use Rattle.ip_reass.specs.declared.arrival.Arrival.{Arrival}
use Rattle.ip_reass.specs.declared.datagram.Datagram.{Datagram}

-- a packet of 208 to 2048 bytes as it is stored from the wire: in cluster k, from its first byte on
abbrev pub in_cluster : List ℕ → ℕ → ChainView
in_cluster packet k = record {
  front = alone true;
  entries = record { bytes = packet; start = 0; cluster = Some k } ∷ [];
  cells = [];
}

-- a packet of 101 to 207 bytes as it is stored from the wire: in two mbufs, each filled from its front
abbrev pub in_mbufs : List ℕ → ChainView
in_mbufs packet = record {
  front = alone true;
  entries =
      record { bytes = take MHLEN packet; start = PACKET_START; cluster = None }
      ∷ record { bytes = drop MHLEN packet; start = MBUF_HEADER; cluster = None } ∷ [];
  cells = [];
}

-- one or the other
abbrev pub stored_by : Bool → List ℕ → ℕ → ChainView
stored_by is_large packet k = if is_large then in_cluster packet k else in_mbufs packet

-- a packet of 101 to 2048 bytes as it is stored from the wire: if it has 208 or more, in cluster k
abbrev pub as_stored : List ℕ → ℕ → ChainView
as_stored packet k = stored_by (nat_le MINCLSIZE (length packet)) packet k

-- the cluster is free in p, if the packet takes one
abbrev pub TakesFree : PoolView → List ℕ → ℕ → Type 0
TakesFree p packet k = MINCLSIZE ≤ length packet → (k < p.clusters) × (references p k ≡ 0)

-- whether a packet has the length that its header h says, and isn't a malformed fragment
abbrev pub is_sound : IpHead → List ℕ → Bool
is_sound h packet = (h.total == length packet) && not (is_bad_fragment (flat_head h) (length packet - IP_HEADER))

-- whether a packet with header h can be queued directly: it takes one cluster or two mbufs, has the length that its
-- header says, and isn't a malformed fragment
abbrev pub can_be_queued : IpHead → List ℕ → Bool
can_be_queued h packet =
    (nat_lt MHLEN (length packet) && nat_le (length packet) MCLBYTES) && is_sound h packet

-- and a cluster and two mbufs are free
abbrev pub fits_at_once : PoolView → IpHead → List ℕ → Bool
fits_at_once p h packet = can_be_queued h packet && are_free p 2 1

-- From p, ds and c to q, es and d a packet arrived as a fragment with header h. Step, layout and cause are those that
-- its chain would have had, in a cluster that was free in p if it takes one. The step covers whatever happens to the
-- chains that the caller holds, and any weight held elsewhere.
pub record ArrivesAtOnce (p : PoolView) (ds : List Datagram) (c : Counters) (packet : List ℕ) (h : IpHead)
    (result : Arrival) (q : PoolView) (es : List Datagram) (d : Counters) : Type 0 where
  pub cluster : ℕ
  pub free : TakesFree p packet cluster
  pub step : (fate : Fate) (rest : State) (held : Weight) (new : State) → IsAccounted p (with_waiting p ds c rest) held
      → GoesOn (told fate) held q result (with_waiting q es d rest) new
      → ChainArrives (told fate) held h (as_stored packet cluster) (with_waiting p ds c rest) new
  pub layout : HasLayout p ds (key_in h) (fragment_carried (as_stored packet cluster) h) result q es
  pub cause : HasCause (cause_of (as_stored packet cluster) h (under (key_in h) (queues q es))) result
