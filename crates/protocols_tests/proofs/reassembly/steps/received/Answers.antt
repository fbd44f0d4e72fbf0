use Rattle.std.proofs.Common.{ℕ, List, ◌∷◌, subst, sym}
use Rattle.mbuf_chain.specs.Chain.{ChainView, PoolView, Adds}
use Rattle.mbuf_chain.specs.Owners.{IsOwned}
use Rattle.mbuf_chain.proofs.Laws.Owners.{moves_none, then_adds, same_adds, owned_after}
use Rattle.ip_reass.specs.Table.{TableView, IsReady, held_all}
use Rattle.ip_reass.specs.Same.{held_all_same, ready_same}
use Rattle.protocols_tests.proofs.reassembly.steps.received.Goals as goal

-- a chain was received: the table stays ready, and doesn't hold the chain
record Came (p q : PoolView) (n : ℕ) (r : TableView) : Type 0 where
  ready : IsReady q r
  owned : IsOwned q (n ∷ held_all q r.datagrams)

came : (p q : PoolView) (n : ℕ) (v : ChainView) (r : TableView) → IsReady p r → Adds p q n v → Came p q n r
came p q n v r is adds =
    let same = same_adds (held_all p r.datagrams) adds is.table.owned in
    record {
      ready = ready_same p q r same is;
      owned =
          subst (λ (xs : List ℕ). IsOwned q (n ∷ xs)) (sym (held_all_same p q r.datagrams same))
          (owned_after (then_adds (moves_none p (held_all p r.datagrams)) adds) is.table.owned);
    }

pub returns-clause-ready : goal.returns-clause-ready
returns-clause-ready g c =
    (came c.args.pool.now c.from_wire.new.pool c.in-Ok.chain _ c.args.table.now c.requires.ready
    c.in-Ok.ensures.ok.3.adds).ready

pub returns-clause-owned : goal.returns-clause-owned
returns-clause-owned g c =
    (came c.args.pool.now c.from_wire.new.pool c.in-Ok.chain _ c.args.table.now c.requires.ready
    c.in-Ok.ensures.ok.3.adds).owned
