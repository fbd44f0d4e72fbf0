use Rattle.std.proofs.Common.{ℕ, List, refl, sym, ap, arith}
use Rattle.mbuf_chain.specs.Chain.{ChainView, PoolView}
use Rattle.mbuf_chain.proofs.Laws.Accounts.{held-adds}
use Rattle.mbuf_chain.proofs.Laws.Owners.{live_adds, shown_adds}
use Rattle.chain_ops.proofs.Laws.Makes.{makes_as}
use Rattle.chain_ops.proofs.Laws.Steps.{string_one}
use Rattle.ip_reass.proofs.ArriveBytes.{carried_are, put_before}
use Rattle.ip_reass.proofs.at_once.store_cluster.Goals as goal

pub new_plain_before-requires-clause-free : goal.new_plain_before-requires-clause-free
new_plain_before-requires-clause-free c =
    omega (arith, held-adds c.in-Ok.ensures.ok.3, ap (λ (q : PoolView). q.mbufs) c.in-Ok.ensures.ok.3.pool, c.requires.mbufs)

pub new_plain_before-requires-clause-back : goal.new_plain_before-requires-clause-back
new_plain_before-requires-clause-back c = live_adds c.in-Ok.ensures.ok.3

pub new_plain_before-requires-clause-bare : goal.new_plain_before-requires-clause-bare
new_plain_before-requires-clause-bare c = ap (λ (v : ChainView). v.front) (shown_adds c.in-Ok.ensures.ok.3)

pub new_plain_before-requires-clause-len : goal.new_plain_before-requires-clause-len
new_plain_before-requires-clause-len c = sym (string_one _ _ _ _ _ c.in-Ok.ensures.ok.3)

pub returns : goal.returns
returns c =
    let k : ℕ = c.in-Ok.ensures.ok.0 in
    let packet : List ℕ = c.args.packet.now in (
      k,
      c.in-Ok.ensures.ok.1,
      c.in-Ok.ensures.ok.2,
      makes_as _ _ _ (put_before _ _ _ _ _ _ _ c.in-Ok.ensures.ok.3 c.new_plain_before.ensures)
          refl refl
          (carried_are packet k (omega (arith, c.requires.many))),
    )
