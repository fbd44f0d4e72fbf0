use Rattle.std.proofs.Common.{length, ap, sym, ◌∙◌}
use Rattle.mbuf_chain.specs.Chain.{ChainView, entry_in}
use Rattle.mbuf_chain.proofs.Laws.Owners.{live_adds}
use Rattle.mbuf_chain.proofs.Laws.Steps.{live_beside, place_beside, linked_new}
use Rattle.chain_ops.proofs.Laws.Steps.{kept_adds, string_one, copied_length}
use Rattle.chain_ops.proofs.step.append_copy.Goals as goal

pub link_counted-place-requires-clause-front : goal.link_counted-place-requires-clause-front
link_counted-place-requires-clause-front c = live_beside _ _ _ _ c.in_ok-back.ensures.ok _ c.requires.copy

pub link_counted-place-requires-clause-back : goal.link_counted-place-requires-clause-back
link_counted-place-requires-clause-back c = live_adds c.in_ok-back.ensures.ok

pub link_counted-place-requires-clause-place : goal.link_counted-place-requires-clause-place
link_counted-place-requires-clause-place c =
    place_beside _ _ _ _ _ _ c.in_ok-back.ensures.ok c.requires.copy c.requires.last

pub link_counted-place-requires-clause-last : goal.link_counted-place-requires-clause-last
link_counted-place-requires-clause-last c =
    c.requires.end ∙ ap (λ (v : ChainView). length v.entries)
    (sym (kept_adds _ _ _ _ _ c.in_ok-back.ensures.ok c.requires.copy))

pub link_counted-place-requires-clause-len : goal.link_counted-place-requires-clause-len
link_counted-place-requires-clause-len c =
    sym (string_one _ _ _ _ _ c.in_ok-back.ensures.ok
    ∙ copied_length 20 (entry_in c.args.pool.now c.args.chain.now c.args.at) _ _ c.requires.within)

pub returns-clause-ok : goal.returns-clause-ok
returns-clause-ok c = (
  c.in_ok-back.back,
  linked_new _ _ _ _ _ _ c.requires.copy c.in_ok-back.ensures.ok
      c.link_counted-place.ensures.change,
  c.link_counted-place.ensures.place,
  c.link_counted-place.ensures.index,
)
