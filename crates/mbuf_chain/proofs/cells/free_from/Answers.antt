use Rattle.std.proofs.Common.{ℕ, ◌<◌, Option, Some, sym, subst}
use Rattle.mbuf_pool.specs.Store.{StoreView, mbuf_head}
use Rattle.mbuf_chain.specs.Inside.Cells.{LeadsToEnd, cells_from, weigh, one, Freed}
use Rattle.mbuf_chain.proofs.Stores.{Ready, ready}
use Rattle.mbuf_chain.proofs.cells.free_from.Goals as goal
use Rattle.mbuf_chain.proofs.cells.free_from.Goals.{In-Some}

next : (c : In-Some) → Ready c.args.store.now c.mbufs.store (Some c.args.first) c.mbufs.at c.in-Some.cell
next c = ready _ _ _ _ _ c.in-Some.is c.requires c.mbufs.invariant.whole c.mbufs.invariant.freed

pub free_mbuf-at-requires-clause-out : goal.free_mbuf-at-requires-clause-out
free_mbuf-at-requires-clause-out c = (next (goal.at.free_mbuf-at-requires-clause-out c).In-Some).out

pub free_mbuf-at-requires-clause-known : goal.free_mbuf-at-requires-clause-known
free_mbuf-at-requires-clause-known c = (next (goal.at.free_mbuf-at-requires-clause-known c).In-Some).known

pub mbufs-smaller : goal.mbufs-smaller
mbufs-smaller c =
    subst
    (λ (n : Option ℕ). weigh one (cells_from c.args.store.now n) < weigh one (cells_from c.args.store.now c.mbufs.at))
    (sym c.free_mbuf-at.ensures.next) (next (goal.at.mbufs-smaller c).In-Some).shorter

pub mbufs-preserved : goal.mbufs-preserved
mbufs-preserved c =
    let s = c.args.store.now in
    let r = next (goal.at.mbufs-preserved c).In-Some in
    record {
      whole = subst (LeadsToEnd s) (sym c.free_mbuf-at.ensures.next) r.whole;
      freed =
          subst (λ (n : Option ℕ). Freed s c.free_mbuf-at.new.store (cells_from s (Some c.args.first)) (cells_from s n))
          (sym c.free_mbuf-at.ensures.next) (subst (λ (u : StoreView). Freed s u (cells_from s (Some c.args.first))
          (cells_from s (mbuf_head c.mbufs.store c.in-Some.cell).next)) (sym c.free_mbuf-at.ensures.freed) r.freed);
      store = c.free_mbuf-at.ensures.store;
    }
