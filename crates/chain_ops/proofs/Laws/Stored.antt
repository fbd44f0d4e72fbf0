-- The bytes of a chain after storing and overwriting bytes, independent of the layout.
use Rattle.std.proofs.Common.{◌≡◌, ℕ, true, false, List, length, count_by, arith}
use Rattle.params.specs.declared.TheConstants.{CLUSTER_LEADING_SPACE}
use Rattle.flat_model.specs.Amounts.Layout.{user, wire, is_cluster}
use Rattle.mbuf_chain.specs.Chain.{flat_bytes}
use Rattle.chain_ops.specs.Stored.{stored_first}
use Rattle.chain_ops.proofs.Stored.{first_bytes, rooms_sum}
pub use Rattle.chain_ops.proofs.Writes.{copied_back_bytes}

-- the bytes of a new chain, for a send and for a packet that arrived, are those that were stored
pub user_bytes : (cs xs : List ℕ) → length cs ≡ count_by is_cluster (user (length xs))
    → flat_bytes (stored_first CLUSTER_LEADING_SPACE true cs (user (length xs)) xs) ≡ xs
user_bytes cs xs e =
    first_bytes CLUSTER_LEADING_SPACE true cs (user (length xs)) xs e
    (rooms_sum CLUSTER_LEADING_SPACE (length xs) (omega arith))

pub wire_bytes : (cs xs : List ℕ) → length cs ≡ count_by is_cluster (wire (length xs))
    → flat_bytes (stored_first 0 false cs (wire (length xs)) xs) ≡ xs
wire_bytes cs xs e = first_bytes 0 false cs (wire (length xs)) xs e (rooms_sum 0 (length xs) (omega arith))
