use Rattle.std.proofs.Common.{◌≡◌, ℕ, ◌-◌, ◌++◌, List, take, drop, arith, ap, sym, refl, ◌∙◌}
use Rattle.std.proofs.lemmas.List.{take-append-drop}
use Rattle.mbuf_chain.specs.declared.place.Segment.{Segment}
use Rattle.mbuf_chain.specs.Chain.{Entry, chain_of}
use Rattle.mbuf_chain.specs.Steps.{with_entries_in}
use Rattle.mbuf_chain.proofs.Laws.Steps.{live_shown, place_after}
use Rattle.chain_ops.specs.Trims.{without_first}
use Rattle.chain_ops.proofs.Trims.{changed_none, changed_step, length_now, walk_end, trim_all, trim_nothing}
use Rattle.chain_ops.proofs.adj.trim_walk.Goals as goal

pub next-requires-clause-live : goal.next-requires-clause-live
next-requires-clause-live c = live_shown _ _ _ _ c.narrow.ensures

pub next-requires-clause-place : goal.next-requires-clause-place
next-requires-clause-place c = place_after _ _ _ _ _ _ c.narrow.ensures c.mbufs.invariant.place

pub mbufs-smaller : goal.mbufs-smaller
mbufs-smaller c = omega (arith, c.in-Some.ensures.1, c.in-Some.ensures.0.within, length_now _ _ _ _ _ c.narrow.ensures)

pub mbufs-init : goal.mbufs-init
mbufs-init c =
    let es : List Entry = (chain_of c.args.pool.now c.args.chain.now).entries in
    record {
      step = changed_none _ _ c.requires;
      all = ap (λ (i : ℕ). take i es ++ without_first c.args.n (drop i es)) c.first-at.ensures.index;
      place = c.first-at.ensures.place;
    }

pub mbufs-preserved : goal.mbufs-preserved
mbufs-preserved c = record {
  step = changed_step _ _ _ _ _ _ c.mbufs.invariant.step c.narrow.ensures;
  all =
      trim_all _ _ _ _ _ _ _ _ c.mbufs.invariant.place (ap (λ (x : Segment). x.len) c.segment-len.ensures.value)
      c.min-skip.ensures c.narrow.ensures c.in-Some.ensures.1 ∙ c.mbufs.invariant.all;
  place = c.in-Some.ensures.0;
}

pub returns-in_default : goal.returns-in_default
returns-in_default c =
    let end =
    walk_end (chain_of c.narrow.new.self c.args.chain.now).entries (without_first (c.mbufs.left - c.min-skip.result))
    c.mbufs.at.index c.in_default.ensures refl in
    let all =
    trim_all _ _ _ _ _ _ _ _ c.mbufs.invariant.place (ap (λ (x : Segment). x.len) c.segment-len.ensures.value)
    c.min-skip.ensures c.narrow.ensures refl in
    changed_step _ _ _ _ _ _ c.mbufs.invariant.step c.narrow.ensures
    ∙ ap (with_entries_in c.args.pool.now c.args.chain.now) (sym end ∙ all ∙ c.mbufs.invariant.all)

pub returns : goal.returns
returns c =
    let es : List Entry = (chain_of c.mbufs.pool c.args.chain.now).entries in
    let i : ℕ = c.mbufs.at.index in
    let none : 0 ≡ c.mbufs.left = omega arith in
    c.mbufs.invariant.step
    ∙ ap (with_entries_in c.args.pool.now c.args.chain.now)
    (sym (take-append-drop i es) ∙ ap (λ (xs : List Entry). take i es ++ xs) (sym (trim_nothing (drop i es)))
    ∙ ap (λ (n : ℕ). take i es ++ without_first n (drop i es)) none ∙ c.mbufs.invariant.all)
