-- How a walk along the links represents the entries of a chain (this project's own).
use Rattle.std.specs.Prelude.{ℕ, ◌≤◌, List, map, Option}
use Rattle.mbuf_pool.specs.Cells.{Head, Part}
use Rattle.mbuf_pool.specs.Store.{StoreView, cluster_count, mbuf_head, IsStore}
use Rattle.mbuf_chain.specs.Chain.{Entry}
use Rattle.mbuf_chain.specs.declared.mbuf_head.MbufHead.{MbufHead}
use Rattle.mbuf_chain.specs.Inside.Cells.{weigh, entry_at, refers_at, cells_from, buffer_of, LeadsToEnd}

-- the entries from an mbuf on
abbrev pub entries_from : StoreView → Option ℕ → List Entry
entries_from s at = map (entry_at s) (cells_from s at)

-- the mbufs from one on can be read: their links end, and their clusters are in use
pub record IsReadable (s : StoreView) (at : Option ℕ) : Type 0 where
  pub whole : LeadsToEnd s at
  pub store : IsStore s
  pub counted : (c : ℕ) → weigh (refers_at s c) (cells_from s at) ≤ cluster_count s c

-- the data bytes of an mbuf, given its head
abbrev pub data_of : ℕ → Head → Part
data_of i h = record { buffer = buffer_of i h.cluster; start = h.start; len = h.len }

-- the head fields of an mbuf, given its head
abbrev pub reported_head : ℕ → Head → MbufHead
reported_head i h = record {
  number = i;
  next = h.next;
  next_packet = h.next_packet;
  start = h.start;
  len = h.len;
  packet = h.packet;
  cluster = h.cluster;
}

-- the head fields of an mbuf, and its data bytes
abbrev pub reported_at : StoreView → ℕ → MbufHead × List ℕ
reported_at s i = (reported_head i (mbuf_head s i), (entry_at s i).bytes)

-- the same for the mbufs from one on
abbrev pub reported_from : StoreView → Option ℕ → List (MbufHead × List ℕ)
reported_from s at = map (reported_at s) (cells_from s at)
