-- The data of a packet from the wire, in a new chain (this project's own).
use Rattle.std.specs.Prelude.{◌≡◌, ℕ, ◌+◌, if◌then◌else◌, Bool, true, false, List, [], ◌∷◌, ◌++◌, length, take, drop, count_by, Option, Some, None, option_map, Result, Ok, Err}
use Rattle.params.specs.declared.TheConstants.{IP_UDP_HEADERS, MBUF_HEADER, MCLBYTES, MSIZE, PACKET_START}
use Rattle.flat_model.specs.Amounts.Layout.{is_cluster, entries_on, weight_of, wire}
use Rattle.flat_model.specs.Amounts.Weight.{Item}
use Rattle.mbuf_chain.specs.Chain.{Entry, PoolView}
use Rattle.mbuf_chain.specs.Owners.{Moves}
use Rattle.mbuf_chain.specs.Train.{queued_packets}
use Rattle.chain_ops.specs.Stored.{AreFree}
use Rattle.flat_model.specs.Sockets.Fits.{fits}
use Rattle.flat_model.specs.declared.address.Addr.{Addr}
use Rattle.flat_model.specs.declared.counters.Why.{Why}
use Rattle.flat_model.specs.declared.counters.Why.TheVariants.{UdpFullSocket}
use Rattle.ledger.specs.Accounts.{item_at}
use Rattle.pcb_table.specs.declared.block.Block.{Block}
use Rattle.pcb_table.specs.Table.{Table, block_at}
use Rattle.sockbuf.specs.SockBuf.{SockBufView}
use Rattle.sockbuf.specs.Stored.{IsTaken, stored_datagram, stored_packet}
use Rattle.sock_calls.specs.declared.one_packet.TheConstants.{MOST_IN_MBUF}
use Rattle.sock_calls.specs.Sockets.{StepsAt, queue_at, queues_of}

-- the data of a packet up to `end`, in the mbufs of the whole packet
abbrev pub data_of : List ℕ → ℕ → List ℕ → Item
data_of packet end clusters = record {
  bytes = drop IP_UDP_HEADERS (take end packet);
  weight = weight_of (entries_on clusters (wire (length packet)));
}

-- From p to q chain c was made: it has the data of a packet, laid out as if the whole packet had been stored in free
-- clusters, and its headers and padding had been removed.
pub record IsDataStored (p : PoolView) (packet : List ℕ) (end : ℕ) (q : PoolView) (c : ℕ) : Type 0 where
  pub clusters : List ℕ
  pub free : AreFree p clusters
  pub number : length clusters ≡ count_by is_cluster (wire (length packet))
  pub item : item_at q c ≡ data_of packet end clusters
  pub moves : Moves p [] q (c ∷ [])

-- the data of a packet that `from_wire` puts into two mbufs, without their headers
abbrev pub two_entries : List ℕ → List Entry
two_entries bytes =
    record { bytes = take MOST_IN_MBUF bytes; start = PACKET_START + IP_UDP_HEADERS; cluster = None }
    ∷ record { bytes = drop MOST_IN_MBUF bytes; start = MBUF_HEADER; cluster = None } ∷ []

-- where the data of a packet begin that `from_wire` puts into one mbuf or cluster
abbrev pub data_start : Bool → ℕ
data_start is_large = if is_large then IP_UDP_HEADERS else PACKET_START + IP_UDP_HEADERS

-- the memory of such an mbuf
abbrev pub data_memory : Bool → ℕ
data_memory is_large = if is_large then MSIZE + MCLBYTES else MSIZE

-- Bytes that fit into queue fd, which has this limit, are its newest datagram, in one mbuf, with or without a cluster
-- that was free.
pub record IsStoredAt (limit : ℕ) (p : PoolView) (bs : List SockBufView) (fd : ℕ) (sender : Addr) (is_large : Bool)
    (bytes : List ℕ) (q : PoolView) (cs : List SockBufView) : Type 0 where
  pub fits : fits limit (queues_of p bs fd) (length bytes) (data_memory is_large) ≡ true
  pub steps : StepsAt p [] bs fd q [] cs
  pub cluster : Option ℕ
  pub taken : IsTaken p is_large cluster
  pub here : queues_of q cs fd ≡ queues_of p bs fd ++ stored_datagram sender bytes cluster ∷ []
  pub newest : (number : ℕ) × (queued_packets q (queue_at cs fd).train ≡ queued_packets p (queue_at bs fd).train
      ++ stored_packet number sender bytes (data_start is_large) cluster ∷ [])

-- The bytes don't fit into queue fd, and nothing has changed.
pub record IsFullAt (limit : ℕ) (p : PoolView) (bs : List SockBufView) (fd : ℕ) (is_large : Bool) (bytes : List ℕ)
    (why : Why) (q : PoolView)
    (cs : List SockBufView) : Type 0 where
  pub over : fits limit (queues_of p bs fd) (length bytes) (data_memory is_large) ≡ false
  pub cause : why ≡ UdpFullSocket
  pub pool : q ≡ p
  pub queues : cs ≡ bs

-- the queue of a descriptor without a limit of its own is too full for n bytes
pub record IsFullUnset (p : PoolView) (t : Table) (bs : List SockBufView) (fd n : ℕ) : Type 0 where
  pub limit : option_map (λ (b : Block). b.receive_limit) (block_at fd t) ≡ Some 0
  pub over : fits 0 (queues_of p bs fd) n 0 ≡ false

abbrev pub StoresAtEnd : ℕ → PoolView → List SockBufView → ℕ → Addr → Bool → List ℕ → PoolView → List SockBufView
    → Result Unit Why → Type 0
StoresAtEnd limit p bs fd sender is_large bytes q cs (Ok done) = IsStoredAt limit p bs fd sender is_large bytes q cs
StoresAtEnd limit p bs fd sender is_large bytes q cs (Err why) = IsFullAt limit p bs fd is_large bytes why q cs
