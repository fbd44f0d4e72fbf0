use Rattle.std.proofs.Common.{◌≡◌, ℕ, ap, ◌∙◌}
use Rattle.mbuf_chain.specs.Chain.{ChainView, chain_of, with_chain}
use Rattle.mbuf_chain.proofs.Laws.Owners.{live_with, shown_with}
use Rattle.chain_ops.specs.Trims.{without_first}
use Rattle.udp.specs.Inside.{cut_chain}
use Rattle.udp.proofs.Cutting.{with_twice}
use Rattle.udp.proofs.arrival.trim.Goals as goal

pub trim_front-requires : goal.trim_front-requires
trim_front-requires c = live_with _ _ _ _ _ c.trim_back.ensures c.requires

pub returns : goal.returns
returns c =
    let p = c.args.pool.now in
    let k = c.args.chain.now in
    let v : ChainView = cut_chain c.args.len (chain_of p k) in
    let cut : c.trim_back.new.pool ≡ with_chain p k v =
    c.trim_back.ensures ∙ ap (λ (n : ℕ). with_chain p k (cut_chain n (chain_of p k))) c.from.ensures in
    with_twice p c.trim_back.new.pool c.trim_front.new.pool k v _ cut c.trim_front.ensures
    ∙ ap (λ (w : ChainView). with_chain p k (record w { entries = without_first 8 w.entries }))
    (shown_with p c.trim_back.new.pool k v cut)
