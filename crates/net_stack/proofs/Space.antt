-- The buffers of a packet are free if two mbufs are, and, for a packet that takes a cluster, a cluster is.
use Rattle.std.proofs.Common.{◌≡◌, ℕ, ◌<◌, false, true, sym, subst, arith}
use Rattle.flat_model.specs.Amounts.Layout.{wire}
use Rattle.mbuf_chain.specs.Chain.{PoolView}
use Rattle.chain_ops.specs.declared.store.Space.TheVariants.{InCluster, InMbuf, InMore}
use Rattle.chain_ops.specs.Stored.{Has, IsStoredIn}
use Rattle.ledger.specs.Reserve.{are_free}
use Rattle.ledger.proofs.Laws.{enough_clusters, enough_mbufs}
use Rattle.sock_calls.specs.Whole.{HasOne}
use Rattle.sock_calls.proofs.Laws.{two_plain}
use Rattle.net_stack.proofs.InPlace.{has_one}

pub free_mbuf : (p : PoolView) (n : ℕ) → IsStoredIn 0 n InMbuf → are_free p 2 0 ≡ true → Has p (wire n)
free_mbuf p n placed free =
    let one : HasOne p n false = record {
      room = placed.1;
      mbufs = enough_mbufs p 2 0 free (omega arith);
      clusters = omega arith;
      fits = omega (arith, placed.0);
      begins = omega arith;
    } in
    has_one false one

pub free_cluster : (p : PoolView) (n : ℕ) → IsStoredIn 0 n InCluster → are_free p 2 1 ≡ true → Has p (wire n)
free_cluster p n placed free =
    let one : HasOne p n true = record {
      room = placed.2;
      mbufs = enough_mbufs p 2 1 free (omega arith);
      clusters = enough_clusters p 2 1 free;
      fits = omega (arith, placed.1);
      begins = omega (arith, placed.0);
    } in
    has_one true one

-- two mbufs, for a packet that needs no cluster
pub free_two : (p : PoolView) (n : ℕ) → IsStoredIn 0 n InMore → n < 208 → are_free p 2 0 ≡ true → Has p (wire n)
free_two p n placed few free =
    subst (Has p) (sym (two_plain n (omega (arith, placed.0)) few)) (enough_mbufs p 2 0 free (omega arith), omega arith)
