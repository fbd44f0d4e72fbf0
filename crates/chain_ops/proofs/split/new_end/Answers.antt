use Rattle.std.proofs.Common.{length, arith, ap, sym, subst}
use Rattle.mbuf_chain.specs.Chain.{Entry, ChainView, HasTrailingSpace, entry_of, entry_in}
use Rattle.mbuf_chain.proofs.Laws.Owners.{live_adds}
use Rattle.mbuf_chain.proofs.Laws.Steps.{live_beside, place_beside, new_entry}
use Rattle.chain_ops.proofs.Laws.Steps.{plain_unshared, kept_adds}
use Rattle.chain_ops.proofs.Joins.{at_end_fits}
use Rattle.chain_ops.proofs.Splits.{end_made}
use Rattle.chain_ops.proofs.split.new_end.Goals as goal

pub first-to-requires : goal.first-to-requires
first-to-requires c = live_adds c.in_ok-head.ensures.ok

pub append-requires-clause-unshared : goal.append-requires-clause-unshared
append-requires-clause-unshared c =
    plain_unshared c.new_plain.new.self (entry_in c.new_plain.new.self c.in_ok-head.head c.first-to.result)
    (ap (λ (e : Entry). e.cluster)
    (new_entry c.args.pool.now c.new_plain.new.self c.in_ok-head.head c.first-to.result.index _ _
    c.in_ok-head.ensures.ok c.first-to.ensures.index))

pub append-requires-clause-fits : goal.append-requires-clause-fits
append-requires-clause-fits c =
    subst (λ (e : Entry). HasTrailingSpace e c.args.n)
    (sym (new_entry c.args.pool.now c.new_plain.new.self _ _ _ _ c.in_ok-head.ensures.ok c.first-to.ensures.index))
    (omega (arith, c.at_end.ensures, at_end_fits 28 c.args.n (omega (arith, c.requires.most))))

pub append-requires-clause-other : goal.append-requires-clause-other
append-requires-clause-other c = live_beside _ _ _ _ c.in_ok-head.ensures.ok _ c.requires.live

pub append-requires-clause-from : goal.append-requires-clause-from
append-requires-clause-from c = place_beside _ _ _ _ _ _ c.in_ok-head.ensures.ok c.requires.live c.requires.place

pub append-requires-clause-within : goal.append-requires-clause-within
append-requires-clause-within c =
    omega (
      arith,
      c.requires.whole,
      ap (λ (v : ChainView). length (entry_of v c.args.at.index).bytes)
          (kept_adds _ _ _ _ _ c.in_ok-head.ensures.ok c.requires.live),
    )

pub returns-clause-ok : goal.returns-clause-ok
returns-clause-ok c =
    end_made _ _ _ _ _ _ (entry_in c.args.pool.now c.args.chain.now c.args.at) _ _ _ c.requires.whole c.at_end.ensures
    (ap (λ (v : ChainView). entry_of v c.args.at.index) (kept_adds _ _ _ _ _ c.in_ok-head.ensures.ok c.requires.live))
    c.in_ok-head.ensures.ok c.first-to.ensures.index c.append.ensures
