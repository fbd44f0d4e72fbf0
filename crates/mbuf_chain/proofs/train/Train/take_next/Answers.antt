use Rattle.std.specs.Prelude.{slice_get}
use Rattle.std.proofs.Common.{◌≡◌, ◌+◌, suc, ◌<◌, Some, ◌∙◌, sym, ap, arith, subst}
use Rattle.std.specs.Option.{IfSome}
use Rattle.mbuf_chain.specs.Chain.{ChainView, IsLive, chain_of}
use Rattle.mbuf_chain.specs.Steps.{placed}
use Rattle.mbuf_chain.specs.Train.{TrainView, numbers}
use Rattle.mbuf_chain.specs.declared.train.Train.TheInside.{Inside}
use Rattle.mbuf_chain.proofs.Laws.Owners.{live_with, kept_with}
use Rattle.mbuf_chain.proofs.Trains.{taken_after, live_queued, headed_packet, after_queued, next_queued, next_apart, live_after, end_there}
use Rattle.mbuf_chain.proofs.train.Train.take_next.Goals as goal
use Rattle.mbuf_chain.proofs.train.Train.take_next.Goals.{In-Some, then-self-before, else-self-before}

-- the chain that is taken
taken : (c : In-Some) → slice_get (numbers c.args.pool.now c.args.self.now) (suc c.args.before.index) ≡ Some c.in-Some.number
taken c =
    next_queued c.args.pool.now c.args.self.now c.args.before.index c.args.before.number c.in-Some.number
    c.requires.held c.requires.before.number (omega arith) (sym c.after.ensures ∙ c.in-Some.is)

live : (c : In-Some) → IsLive c.args.pool.now c.in-Some.number
live c =
    live_queued c.args.pool.now c.args.self.now (suc c.args.before.index) c.in-Some.number c.requires.held (taken c)

pub after-requires : goal.after-requires
after-requires c = live_queued _ _ _ _ c.requires.held c.requires.before.number

pub unreachable-requires : goal.unreachable-requires
unreachable-requires c =
    let next =
    after_queued c.args.pool.now c.args.self.now c.args.before.index c.args.before.number c.requires.held
    c.requires.before.number (omega arith) in
    c.in_default.not-Some next.0 (c.after.ensures ∙ next.1)

pub after-rest-requires : goal.after-rest-requires
after-rest-requires c = live (goal.at.after-rest-requires c).In-Some

pub tag-tag-requires : goal.tag-tag-requires
tag-tag-requires c = live (goal.at.tag-tag-requires c).In-Some

pub set_after-requires-clause-headed : goal.set_after-requires-clause-headed
set_after-requires-clause-headed c = headed_packet _ _ _ _ c.requires.held c.requires.before.number

pub set_after-requires-2-clause-live : goal.set_after-requires-2-clause-live
set_after-requires-2-clause-live c =
    live_with c.args.pool.now c.set_after.new.self c.args.before.number
    (placed (chain_of c.args.pool.now c.args.before.number) c.after-rest.result c.tag-kept.result) c.in-Some.number
    c.set_after.ensures.placed (live (goal.at.set_after-requires-2-clause-live c).In-Some)

pub set_after-requires-2-clause-headed : goal.set_after-requires-2-clause-headed
set_after-requires-2-clause-headed c =
    ap (λ (v : ChainView). v.front.header) (kept_with c.args.pool.now c.set_after.new.self c.args.before.number
    (placed (chain_of c.args.pool.now c.args.before.number) c.after-rest.result c.tag-kept.result) c.in-Some.number
    c.set_after.ensures.placed
    (next_apart c.args.pool.now c.args.self.now c.args.before.index c.args.before.number c.in-Some.number
    c.requires.held c.requires.before.number (omega arith) (sym c.after.ensures ∙ c.in-Some.is)))
    ∙ headed_packet c.args.pool.now c.args.self.now (suc c.args.before.index) c.in-Some.number c.requires.held
    (taken (goal.at.set_after-requires-2-clause-headed c).In-Some)

pub overflow_add-before : goal.overflow_add-before
overflow_add-before c = omega (arith, c.requires.more, ap (λ (t : TrainView). t.len) c.self.view_is)

pub returns : goal.returns
returns c =
    let len = ap (λ (t : TrainView). t.len) c.self.view_is in
    let some : 0 < c.self.inside.len = omega (arith, len, c.requires.more) in
    let first =
    sym (end_there c.self.inside.len c.self.inside.first some) ∙ ap (λ (t : TrainView). t.first) c.self.view_is in
    let last =
    sym (end_there c.self.inside.len c.self.inside.last some) ∙ ap (λ (t : TrainView). t.last) c.self.view_is in
    elim c.if-self-before.branch [
      | then-self-before w ↦
          taken_after c.args.pool.now c.args.self.now c.args.before.number c.args.before.index (c.args.before.index + 1)
          c.in-Some.number c.tag-tag.result c.tag-kept.result c.after-rest.result c.set_after.new.self
          c.set_after-2.new.self _ c.requires.held
          c.requires.before.number (omega arith) c.requires.more (sym c.after.ensures ∙ c.in-Some.is)
          c.after-rest.ensures c.tag-tag.ensures c.tag-kept.ensures c.set_after.ensures.placed
          c.set_after-2.ensures.placed
          (end_there _ _ (omega (arith, ap (λ (s : Inside). s.len) w.self-inside-is, len, c.requires.more))
          ∙ ap (λ (s : Inside). Some s.first) w.self-inside-is
          ∙ first) (omega (arith, ap (λ (s : Inside). s.len) w.self-inside-is, len, c.requires.more)) (λ _.
          end_there _ _ (omega (arith, ap (λ (s : Inside). s.len) w.self-inside-is, len, c.requires.more))
          ∙ ap (λ (s : Inside). Some s.last) w.self-inside-is)
          (λ h. absurd (omega (arith, h, len, w.if-self-before.true)))
      | else-self-before w ↦
          taken_after c.args.pool.now c.args.self.now c.args.before.number c.args.before.index (c.args.before.index + 1)
          c.in-Some.number c.tag-tag.result c.tag-kept.result c.after-rest.result c.set_after.new.self
          c.set_after-2.new.self _ c.requires.held
          c.requires.before.number (omega arith) c.requires.more (sym c.after.ensures ∙ c.in-Some.is)
          c.after-rest.ensures c.tag-tag.ensures c.tag-kept.ensures c.set_after.ensures.placed
          c.set_after-2.ensures.placed
          (end_there _ _ (omega (arith, ap (λ (s : Inside). s.len) w.self-inside-is, len, c.requires.more))
          ∙ ap (λ (s : Inside). Some s.first) w.self-inside-is
          ∙ first) (omega (arith, ap (λ (s : Inside). s.len) w.self-inside-is, len, c.requires.more)) (λ h. absurd
          (omega (arith, h, len, w.if-self-before.false)))
          (λ _. end_there _ _ (omega (arith, ap (λ (s : Inside). s.len) w.self-inside-is, len, c.requires.more))
          ∙ ap (λ (s : Inside). Some s.last) w.self-inside-is ∙ last)
    ]

pub set_after-requires-clause-link : goal.set_after-requires-clause-link
set_after-requires-clause-link c =
    subst (λ o. IfSome o (IsLive c.args.pool.now)) (sym c.after-rest.ensures)
    (live_after c.args.pool.now c.args.self.now (suc c.args.before.index) c.in-Some.number c.requires.held
    (taken (goal.at.set_after-requires-clause-link c).In-Some))
