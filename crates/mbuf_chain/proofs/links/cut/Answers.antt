use Rattle.std.proofs.Common.{arith, sym, ap, subst, ◌∙◌}
use Rattle.mbuf_pool.specs.Cells.{Head}
use Rattle.mbuf_chain.specs.Chain.{PoolView, Adds, with_chain, chain_of}
use Rattle.mbuf_chain.specs.Steps.{first_part, second_part}
use Rattle.mbuf_chain.specs.Inside.Cells.{pool_of, weigh, one}
use Rattle.mbuf_chain.proofs.Focused.{open_on, first_out, whole_of, count_cells}
use Rattle.mbuf_chain.proofs.Cuts.{IsCut, cut_made, cut_place}
use Rattle.mbuf_chain.proofs.links.cut.Goals as goal

pub packet_len-whole-requires : goal.packet_len-whole-requires
packet_len-whole-requires c = first_out _ _ (open_on _ _ c.requires.chain.pool c.requires.chain.live).at

pub end_of-last-requires-clause-whole : goal.end_of-last-requires-clause-whole
end_of-last-requires-clause-whole c = whole_of _ _ (open_on _ _ c.requires.chain.pool c.requires.chain.live).at

pub end_of-last-requires-clause-within : goal.end_of-last-requires-clause-within
end_of-last-requires-clause-within c =
    let o = open_on c.args.store.now c.args.first c.requires.chain.pool c.requires.chain.live in
    omega (arith, ap (weigh one) o.at.walks, count_cells c.args.store.now c.args.first o.at, c.requires.within)

pub head-head-requires : goal.head-head-requires
head-head-requires c =
    (cut_place c.args.first c.requires.chain.pool c.requires.chain.live c.requires.some c.requires.within
    c.end_of-last.ensures.cell).out

pub change_head-requires-clause-out : goal.change_head-requires-clause-out
change_head-requires-clause-out c =
    (cut_place c.args.first c.requires.chain.pool c.requires.chain.live c.requires.some c.requires.within
    c.end_of-last.ensures.cell).out

pub unwrap-rest-requires : goal.unwrap-rest-requires
unwrap-rest-requires c =
    (cut_place c.args.first c.requires.chain.pool c.requires.chain.live c.requires.some c.requires.within
    c.end_of-last.ensures.cell).some c.head-head.result c.head-head.ensures.value

-- both chains, after the link of the first one's last mbuf is removed
made : (c : goal.After-set_total-arg-1)
    → IsCut c.args.store.now c.change_head.new.self c.args.first c.unwrap-rest.result c.args.keep c.end_of-last.result.1
    c.packet_len-whole.result
made c =
    let place =
    cut_place c.args.first c.requires.chain.pool c.requires.chain.live c.requires.some c.requires.within
    c.end_of-last.ensures.cell in
    let next = ap (λ (h : Head). h.next) (sym c.head-head.ensures.value) ∙ c.unwrap-rest.ensures in
    cut_made c.args.first c.requires.chain.pool c.requires.chain.live c.requires.some c.requires.within c.end_of-last.ensures.cell
    c.end_of-last.ensures.bytes
    c.packet_len-whole.ensures next place.out place.fit c.change_head.ensures.change c.change_head.ensures.store

pub set_total-requires-clause-off : goal.set_total-requires-clause-off
set_total-requires-clause-off c = (made c).off

pub set_total-requires-clause-live : goal.set_total-requires-clause-live
set_total-requires-clause-live c = (made c).live

pub set_total-requires-clause-few : goal.set_total-requires-clause-few
set_total-requires-clause-few c = omega (arith, (made c).few)

pub returns-clause-change : goal.returns-clause-change
returns-clause-change c =
    subst (λ (p : PoolView). Adds (with_chain (pool_of c.args.store.now) c.args.first
    (first_part c.args.keep (chain_of (pool_of c.args.store.now) c.args.first))) p c.unwrap-rest.result (second_part
    c.args.keep (chain_of (pool_of c.args.store.now) c.args.first))) (sym c.set_total.ensures.same)
    (made c.before).adds
