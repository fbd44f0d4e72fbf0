use Rattle.std.proofs.Common.{◌++◌, ◌∷◌, [], true, length, arith, ap, refl, ◌∙◌}
use Rattle.mbuf_chain.specs.Chain.{ChainView, PoolView, alone, entry_of, without}
use Rattle.mbuf_chain.proofs.Laws.Owners.{live_adds, shown_adds}
use Rattle.mbuf_chain.proofs.Laws.Steps.{live_beside, place_beside}
use Rattle.chain_ops.specs.Copies.{copied_entry}
use Rattle.chain_ops.proofs.Laws.Steps.{kept_adds}
use Rattle.chain_ops.proofs.Laws.Makes.{makes_new, makes_then, makes_undone, makes_as, makes_held, makes_mbufs}
use Rattle.chain_ops.proofs.split.new_two.Goals as goal

pub first-last-requires : goal.first-last-requires
first-last-requires c = live_adds c.in_ok-head.ensures.ok

pub append_copy-requires-clause-end : goal.append_copy-requires-clause-end
append_copy-requires-clause-end c =
    omega (
      arith,
      c.first-last.ensures.index,
      ap (λ (v : ChainView). length v.entries) (shown_adds c.in_ok-head.ensures.ok),
    )

pub append_copy-requires-clause-live : goal.append_copy-requires-clause-live
append_copy-requires-clause-live c = live_beside _ _ _ _ c.in_ok-head.ensures.ok _ c.requires.live

pub append_copy-requires-clause-place : goal.append_copy-requires-clause-place
append_copy-requires-clause-place c = place_beside _ _ _ _ _ _ c.in_ok-head.ensures.ok c.requires.live c.requires.place

pub append_copy-requires-clause-within : goal.append_copy-requires-clause-within
append_copy-requires-clause-within c =
    omega (
      arith,
      c.requires.within,
      ap (λ (v : ChainView). length (entry_of v c.args.at.index).bytes)
          (kept_adds _ _ _ _ _ c.in_ok-head.ensures.ok c.requires.live),
    )

pub returns-in_default-clause-err : goal.returns-in_default-clause-err
returns-in_default-clause-err c =
    omega (
      arith,
      c.in_default.ensures.err,
      makes_held (makes_new c.in_ok-head.ensures.ok),
      makes_mbufs (makes_new c.in_ok-head.ensures.ok),
    )

pub returns-in_default-clause-same : goal.returns-in_default-clause-same
returns-in_default-clause-same c =
    makes_undone _ (makes_new c.in_ok-head.ensures.ok)
    (c.free_chain.ensures ∙ ap (λ (s : PoolView). without s c.in_ok-head.head) c.in_default.ensures.same)

pub returns-clause-ok : goal.returns-clause-ok
returns-clause-ok c =
    let q : PoolView = c.new_chain.new.self in
    let shown = shown_adds c.in_ok-head.ensures.ok in
    let kept = kept_adds _ _ _ _ _ c.in_ok-head.ensures.ok c.requires.live in
    let m = makes_then c.append_copy.new.pool _ (makes_new c.in_ok-head.ensures.ok) c.in-Ok.ensures.ok.1 in
    makes_as c.args.pool.now (alone true) _ m refl (ap (λ (v : ChainView). v.front) shown)
    (λ j. (shown j).entries ++ (copied_entry 20 (entry_of (kept j) c.args.at.index) c.args.off c.args.n ∷ []))
