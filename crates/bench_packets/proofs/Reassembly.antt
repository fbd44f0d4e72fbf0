-- A chain in the pool of a table: it's allocated, and then freed.
use Rattle.std.proofs.Common.{◌≡◌, ℕ, List, ◌∷◌, subst, sym}
use Rattle.mbuf_chain.specs.Chain.{ChainView, PoolView, Adds, without}
use Rattle.mbuf_chain.specs.Owners.{IsOwned}
use Rattle.mbuf_chain.proofs.Laws.Owners.{moves_none, then_adds, same_adds, same_without, apart_first, owned_after}
use Rattle.ip_reass.specs.Table.{TableView, IsReady, held_all}
use Rattle.ip_reass.specs.Same.{held_all_same, ready_same}

pub record Came (p q : PoolView) (n : ℕ) (r : TableView) : Type 0 where
  pub ready : IsReady q r
  pub owned : IsOwned q (n ∷ held_all q r.datagrams)

pub came : (p q : PoolView) (n : ℕ) (v : ChainView) (r : TableView) → IsReady p r → Adds p q n v → Came p q n r
came p q n v r is adds =
    let same = same_adds (held_all p r.datagrams) adds is.table.owned in
    record {
      ready = ready_same p q r same is;
      owned =
          subst (λ (xs : List ℕ). IsOwned q (n ∷ xs)) (sym (held_all_same p q r.datagrams same))
          (owned_after (then_adds (moves_none p (held_all p r.datagrams)) adds) is.table.owned);
    }

pub freed : (p q : PoolView) (n : ℕ) (r : TableView) → IsReady p r → IsOwned p (n ∷ held_all p r.datagrams)
    → q ≡ without p n → IsReady q r
freed p q n r is owned gone =
    ready_same p q r (same_without p q n (held_all p r.datagrams) (apart_first p n (held_all p r.datagrams) owned) gone)
    is
