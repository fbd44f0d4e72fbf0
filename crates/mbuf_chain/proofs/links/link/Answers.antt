use Rattle.std.proofs.Common.{◌∙◌, arith}
use Rattle.mbuf_pool.proofs.Laws.{sets_out}
use Rattle.mbuf_chain.proofs.Focused.{open_on, first_out}
use Rattle.mbuf_chain.proofs.Heads.{shown_at}
use Rattle.mbuf_chain.proofs.Linked.{Linkable, linkable}
use Rattle.mbuf_chain.proofs.Lists.{out_below}
use Rattle.mbuf_chain.proofs.Joins.{Joined, joined_made}
use Rattle.mbuf_chain.proofs.Places.{linked_place, live_cells}
use Rattle.mbuf_chain.proofs.links.link.Goals as goal
use Rattle.mbuf_chain.proofs.links.link.Goals.{After-change_head-2, After-change_head-3}

pub change_head-requires-clause-out : goal.change_head-requires-clause-out
change_head-requires-clause-out c = first_out _ _ (open_on _ _ c.requires.back.pool c.requires.back.live).at

pub change_head-requires-2-clause-out : goal.change_head-requires-2-clause-out
change_head-requires-2-clause-out c =
    sets_out _ _ _ _ (first_out _ _ (open_on _ _ c.requires.back.pool c.requires.back.live).at) c.change_head.ensures.change

-- the chains after the second lost its header and its place in a train
bare : (c : After-change_head-2) → Linkable c.args.store.now c.change_head-2.new.self c.args.front c.args.back
    c.args.added c.args.last
bare c =
    linkable c.args.store.now c.change_head.new.self c.change_head-2.new.self c.args.front c.args.back c.args.added
    c.args.last c.requires.place c.requires.back c.requires.apart c.requires.last c.requires.bytes
    c.change_head.ensures.change c.change_head-2.ensures.change c.change_head-2.ensures.store

pub change_head-requires-3-clause-out : goal.change_head-requires-3-clause-out
change_head-requires-3-clause-out c =
    (shown_at (bare (goal.at.change_head-requires-3-clause-out c).After-change_head-2).place).out

pub change_head-requires-3-clause-possible : goal.change_head-requires-3-clause-possible
change_head-requires-3-clause-possible c =
    let o = open_on c.args.store.now c.args.back c.requires.back.pool c.requires.back.live in
    omega (
      arith,
      out_below c.args.store.now c.args.back (first_out c.args.store.now c.args.back o.at),
      o.at.sound.store.mbufs,
    )

joined : (c : After-change_head-3)
    → Linkable c.args.store.now c.change_head-2.new.self c.args.front c.args.back c.args.added c.args.last
    → Joined c.change_head-2.new.self c.change_head-3.new.self c.args.front c.args.back c.args.added
joined c u =
    joined_made c.change_head-2.new.self c.change_head-3.new.self c.args.front c.args.back c.args.added c.args.last
    u.place.pool u.place.live u.back c.requires.apart u.place.place u.ends u.bare c.change_head-3.ensures.change
    c.change_head-3.ensures.store u.bytes

pub set_total-requires-clause-off : goal.set_total-requires-clause-off
set_total-requires-clause-off c =
    let at = goal.at.set_total-requires-clause-off c in
    (joined at.After-change_head-3 (bare at.After-change_head-2)).off

pub set_total-requires-clause-live : goal.set_total-requires-clause-live
set_total-requires-clause-live c =
    let at = goal.at.set_total-requires-clause-live c in
    (joined at.After-change_head-3 (bare at.After-change_head-2)).live

pub overflow_add-result : goal.overflow_add-result
overflow_add-result c =
    omega (arith, (live_cells c.args.store.now c.args.front c.requires.place.pool c.requires.place.live).few, c.requires.last)

pub returns-clause-change : goal.returns-clause-change
returns-clause-change c =
    let at = goal.at.returns-clause-change c in
    let u = bare at.After-change_head-2 in
    c.set_total.ensures.same ∙ (joined at.After-change_head-3 u).map_is ∙ u.whole

pub returns-clause-place : goal.returns-clause-place
returns-clause-place c =
    linked_place c.args.store.now _ _ _ c.args.last c.requires.place.pool c.requires.place.live c.requires.back.live c.requires.last
    (returns-clause-change c)
