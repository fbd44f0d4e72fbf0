use Rattle.std.proofs.Common.{◌≡◌, ◌≤◌, ℕ, ◌+◌, ◌++◌, true, List, length, count_by}
use Rattle.mbuf_chain.specs.Chain.{IsPlace, chain_of, alone, references_of, free_clusters}
use Rattle.mbuf_chain.specs.Owners.{times_among}
use Rattle.flat_model.specs.Amounts.Layout.{is_cluster}
use Rattle.chain_ops.specs.Makes.{Makes}
use Rattle.chain_ops.specs.Stored.{AreFree, stored, stored_first, rooms_for}
use Rattle.chain_ops.proofs.Laws.Rooms.{rest_rooms}
use Rattle.chain_ops.proofs.store.store_rooms.Given as goal

abbrev pub invariant-rooms : goal.invariant-rooms
invariant-rooms l = record {
  clusters : List ℕ;
  made : Makes l.fn.pool l.pool l.chain (alone true) (chain_of l.pool l.chain).entries;
  all : (ds : List ℕ) → (chain_of l.pool l.chain).entries ++ stored ds (rest_rooms (length l.rest)) l.rest
      ≡ stored_first l.large l.ends (clusters ++ ds) (rooms_for l.large (length l.bytes)) l.bytes;
  count : length clusters + count_by is_cluster (rest_rooms (length l.rest))
      ≡ count_by is_cluster (rooms_for l.large (length l.bytes));
  number : length (chain_of l.pool l.chain).entries + length (rest_rooms (length l.rest))
      ≡ length (rooms_for l.large (length l.bytes));
  refs : (k : ℕ) → times_among k clusters ≡ references_of k (chain_of l.pool l.chain);
  frees : free_clusters l.pool + length clusters ≡ free_clusters l.fn.pool;
  taken : AreFree l.fn.pool clusters;
  last : IsPlace (chain_of l.pool l.chain) l.last;
  few : length l.rest ≤ length l.bytes;
  end : l.last.index + 1 ≡ length (chain_of l.pool l.chain).entries;
}

abbrev pub decreases-rooms : goal.decreases-rooms
decreases-rooms l = length l.rest
