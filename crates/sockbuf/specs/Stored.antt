-- A datagram that is stored and queued in one call (this project's own; the layout is that of `m_devget` and
-- `sbappendaddr` of TCP/IP Illustrated, volume 2, chapters 2 and 16).
use Rattle.std.specs.Prelude.{◌≡◌, ℕ, ◌<◌, Bool, true, false, List, [], ◌∷◌, ◌++◌, Option, Some, None}
use Rattle.flat_model.specs.Machine.State.{Datagram}
use Rattle.flat_model.specs.declared.address.Addr.{Addr}
use Rattle.mbuf_chain.specs.Chain.{PoolView, references}
use Rattle.mbuf_chain.specs.Owners.{Moves}
use Rattle.mbuf_chain.specs.Train.{QueuedPacket, queued_packets}
use Rattle.sockbuf.specs.SockBuf.{SockBufView, IsSockBuf, chains_of, datagrams, packet_from}

-- the cluster that a new mbuf takes, if it takes one: it had no reference
abbrev pub IsTaken : PoolView → Bool → Option ℕ → Type 0
IsTaken p true None = ⊥
IsTaken p true (Some c) = (c < p.clusters) × (references p c ≡ 0)
IsTaken p false None = Unit {0}
IsTaken p false (Some c) = ⊥

-- the clusters of one mbuf
abbrev pub bag_of : Option ℕ → List ℕ
bag_of None = []
bag_of (Some c) = c ∷ []

-- bytes in one mbuf, after another with the sender's address
abbrev pub stored_datagram : Addr → List ℕ → Option ℕ → Datagram
stored_datagram sender bytes cluster =
    record { sender = sender; item = record { bytes = bytes; weight = record { mbufs = 2; bag = bag_of cluster } } }

-- its chain: the bytes begin at `start`
abbrev pub stored_packet : ℕ → Addr → List ℕ → ℕ → Option ℕ → QueuedPacket
stored_packet number sender bytes start cluster =
    packet_from number sender (record { bytes = bytes; start = start; cluster = cluster } ∷ [])

-- they are the newest datagram of the queue
pub record StoresAt (p : PoolView) (b : SockBufView) (sender : Addr) (is_large : Bool) (start : ℕ) (bytes : List ℕ)
    (q : PoolView) (d : SockBufView) : Type 0 where
  pub cluster : Option ℕ
  pub taken : IsTaken p is_large cluster
  pub datagrams : datagrams q d ≡ datagrams p b ++ stored_datagram sender bytes cluster ∷ []
  pub newest : (number : ℕ) × (queued_packets q d.train ≡ queued_packets p b.train
      ++ stored_packet number sender bytes start cluster ∷ [])
  pub ready : IsSockBuf q d
  pub moves : Moves p (chains_of p b) q (chains_of q d)
