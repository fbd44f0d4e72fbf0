-- The laws that crates above may cite. Laws on weights only, such as those on the sum of two bags, are flat_model's.

-- What an owner's chains weigh is the sum over them.
pub use Rattle.ledger.proofs.Weights.{owned_mbufs, owned_bag}
-- Accounts: from the owners of all chains; for another state of the same weight; the free buffers are those that the
-- machine counts as free.
pub use Rattle.ledger.proofs.Accounts.{accounted_all, accounted_as, free_mbufs_are, free_clusters_are, test_is}
-- The numbers of free mbufs and clusters after a test that passed.
pub use Rattle.ledger.proofs.Accounts.{enough_mbufs, enough_clusters}
-- Free clusters for a step, if the pool has enough.
pub use Rattle.ledger.proofs.Picked.{some_free}
-- A step of an owner: the mbufs held and the references change by those of its chains, and so do the accounts.
pub use Rattle.ledger.proofs.Moved.{sum_moved, held_moved, references_moved, accounted_after}
