-- The chains of an unfinished datagram: the mbuf of its key, and its fragments.
use Rattle.std.proofs.Common.{◌≡◌, ℕ, Option, None, Some, unwrap_or, refl, sym, ap, ◌∙◌, arith}
use Rattle.std.specs.FinMap as finmap
use Rattle.flat_model.specs.Amounts.Weight.{Weight, mbuf}
use Rattle.mbuf_chain.specs.Chain.{ChainView, PoolView, IsLive, no_chain}
use Rattle.ledger.specs.Accounts.{entries_weight, weight_at}

-- a chain with the weight of one mbuf is live
pub live_holder : (p : PoolView) (c : ℕ) → weight_at p c ≡ mbuf → IsLive p c
live_holder p c weighs = go (finmap.get p.chains c) refl
  where
    go : (o : Option ChainView) → finmap.get p.chains c ≡ o → o ≡ Some (unwrap_or o no_chain)
    go None is =
        absurd (omega (
          arith,
          ap (λ (w : Weight). w.mbufs) (sym weighs)
              ∙ ap (λ (o : Option ChainView). (entries_weight (unwrap_or o no_chain).entries).mbufs) is,
        ))
    go (Some v) is = refl
