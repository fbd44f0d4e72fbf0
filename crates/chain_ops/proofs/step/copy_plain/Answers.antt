use Rattle.std.proofs.Common.{length, arith, ap, sym, subst}
use Rattle.mbuf_chain.specs.Chain.{Entry, ChainView, HasTrailingSpace, entry_of, entry_in}
use Rattle.mbuf_chain.proofs.Laws.Owners.{live_adds}
use Rattle.mbuf_chain.proofs.Laws.Steps.{live_beside, place_beside, new_entry}
use Rattle.chain_ops.proofs.Laws.Steps.{plain_unshared, copy_room, copy_made, kept_adds}
use Rattle.chain_ops.proofs.step.copy_plain.Goals as goal

pub first-to-requires : goal.first-to-requires
first-to-requires c = live_adds c.in_ok-copy.ensures.ok

pub append-requires-clause-unshared : goal.append-requires-clause-unshared
append-requires-clause-unshared c =
    plain_unshared c.new_plain.new.self (entry_in c.new_plain.new.self c.in_ok-copy.copy c.first-to.result)
    (ap (λ (e : Entry). e.cluster)
    (new_entry c.args.pool.now c.new_plain.new.self c.in_ok-copy.copy c.first-to.result.index _ _
    c.in_ok-copy.ensures.ok c.first-to.ensures.index))

pub append-requires-clause-fits : goal.append-requires-clause-fits
append-requires-clause-fits c =
    let v : ChainView = Rattle.mbuf_chain.specs.Chain.chain_of c.args.pool.now c.args.chain.now in
    let fits = c.laws.ensures.fits c.args.chain.now c.args.at.index c.requires.live c.requires.place.within in
    let room =
    copy_room v c.args.at.index c.args.header c.args.skip c.args.n c.requires.plain fits.low fits.high
    c.requires.headed c.requires.within in
    subst (λ (e : Entry). HasTrailingSpace e c.args.n)
    (sym (new_entry _ _ _ _ _ _ c.in_ok-copy.ensures.ok c.first-to.ensures.index))
    (omega (arith, room, c.room_low.ensures))

pub append-requires-clause-other : goal.append-requires-clause-other
append-requires-clause-other c = live_beside _ _ _ _ c.in_ok-copy.ensures.ok _ c.requires.live

pub append-requires-clause-from : goal.append-requires-clause-from
append-requires-clause-from c = place_beside _ _ _ _ _ _ c.in_ok-copy.ensures.ok c.requires.live c.requires.place

pub append-requires-clause-within : goal.append-requires-clause-within
append-requires-clause-within c =
    omega (
      arith,
      c.requires.within,
      ap (λ (v : ChainView). length (entry_of v c.args.at.index).bytes)
          (kept_adds _ _ _ _ _ c.in_ok-copy.ensures.ok c.requires.live),
    )

pub returns-clause-ok : goal.returns-clause-ok
returns-clause-ok c =
    copy_made _ _ _ _ _ _ _ (entry_in c.args.pool.now c.args.chain.now c.args.at) _ _ _
    c.requires.plain c.room_low.ensures
    (ap (λ (v : ChainView). entry_of v c.args.at.index) (kept_adds _ _ _ _ _ c.in_ok-copy.ensures.ok c.requires.live))
    c.in_ok-copy.ensures.ok c.first-to.ensures.index c.append.ensures
