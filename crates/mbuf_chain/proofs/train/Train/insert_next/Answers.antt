use Rattle.std.proofs.Common.{refl, ℕ, ◌+◌, ◌<◌, Some, ◌∙◌, sym, ap, arith, subst}
use Rattle.std.specs.Option.{IfSome}
use Rattle.mbuf_chain.specs.Chain.{ChainView, IsLive, chain_of}
use Rattle.mbuf_chain.specs.Steps.{placed}
use Rattle.mbuf_chain.specs.Train.{TrainView}
use Rattle.mbuf_chain.specs.declared.train.Train.TheInside.{Inside}
use Rattle.mbuf_chain.proofs.Laws.Owners.{live_with, kept_with}
use Rattle.mbuf_chain.proofs.Trains.{inserted_after, room_for, live_queued, headed_packet, apart_queued, live_after, end_there}
use Rattle.mbuf_chain.proofs.train.Train.insert_next.Goals as goal
use Rattle.mbuf_chain.proofs.train.Train.insert_next.Goals.{After-set_after, then-self-before, else-self-before}

pub after-after-requires : goal.after-after-requires
after-after-requires c = live_queued _ _ _ _ c.requires.held c.requires.before.number

-- a live chain is still live after the new one has its link
live : (c : After-set_after) (k : ℕ) → IsLive c.args.pool.now k → IsLive c.set_after.new.self k
live c k =
    live_with c.args.pool.now c.set_after.new.self c.args.number
    (placed (chain_of c.args.pool.now c.args.number) c.after-after.result c.args.tag) k c.set_after.ensures.placed

pub relink-requires-clause-live : goal.relink-requires-clause-live
relink-requires-clause-live c =
    live (goal.at.relink-requires-clause-live c).After-set_after c.args.before.number
    (live_queued _ _ _ _ c.requires.held c.requires.before.number)

pub relink-requires-clause-headed : goal.relink-requires-clause-headed
relink-requires-clause-headed c =
    ap (λ (v : ChainView). v.front.header) (kept_with c.args.pool.now c.set_after.new.self c.args.number
    (placed (chain_of c.args.pool.now c.args.number) c.after-after.result c.args.tag) c.args.before.number
    c.set_after.ensures.placed
    (apart_queued c.args.pool.now c.args.self.now _ _ _ c.requires.apart c.requires.before.number))
    ∙ headed_packet _ _ _ _ c.requires.held c.requires.before.number

pub overflow_add-self : goal.overflow_add-self
overflow_add-self c =
    let room =
    room_for c.args.pool.now c.args.self.now c.args.number
    (placed (chain_of c.args.pool.now c.args.number) c.after-after.result c.args.tag) c.set_after.new.self
    c.requires.held c.requires.live c.requires.apart c.set_after.ensures.placed c.set_after.ensures.bounds in
    let len = ap (λ (t : TrainView). t.len) c.self.view_is in
    elim c.if-self-before.branch [
      | then-self-before w ↦ omega (arith, room, len, ap (λ (s : Inside). s.len) w.self-inside-is)
      | else-self-before w ↦ omega (arith, room, len, ap (λ (s : Inside). s.len) w.self-inside-is)
    ]

pub returns-clause-change : goal.returns-clause-change
returns-clause-change c =
    let len = ap (λ (t : TrainView). t.len) c.self.view_is in
    let some : 0 < c.self.inside.len = omega (arith, len, c.requires.before.within) in
    let first =
    sym (end_there c.self.inside.len c.self.inside.first some) ∙ ap (λ (t : TrainView). t.first) c.self.view_is in
    let last =
    sym (end_there c.self.inside.len c.self.inside.last some) ∙ ap (λ (t : TrainView). t.last) c.self.view_is in
    elim c.if-self-before.branch [
      | then-self-before w ↦
          inserted_after c.args.pool.now c.args.self.now c.args.before.number c.args.before.index
          (c.args.before.index + 1) c.args.number c.args.tag _ c.after-after.result c.set_after.new.self
          c.relink.new.self _ c.requires.held c.requires.live
          c.requires.headed c.requires.apart c.requires.before.number (omega arith) c.after-after.ensures refl
          c.set_after.ensures.placed c.relink.ensures.placed
          (end_there _ _ (omega arith) ∙ ap (λ (s : Inside). Some s.first) w.self-inside-is ∙ first)
          (ap (λ (s : Inside). s.len + 1) w.self-inside-is ∙ ap (λ n. n + 1) len)
          (λ _. end_there _ _ (omega arith) ∙ ap (λ (s : Inside). Some s.last) w.self-inside-is)
          (λ h. absurd (omega (arith, h, len, w.if-self-before.true)))
      | else-self-before w ↦
          inserted_after c.args.pool.now c.args.self.now c.args.before.number c.args.before.index
          (c.args.before.index + 1) c.args.number c.args.tag _ c.after-after.result c.set_after.new.self
          c.relink.new.self _ c.requires.held c.requires.live
          c.requires.headed c.requires.apart c.requires.before.number (omega arith) c.after-after.ensures refl
          c.set_after.ensures.placed c.relink.ensures.placed
          (end_there _ _ (omega arith) ∙ ap (λ (s : Inside). Some s.first) w.self-inside-is ∙ first)
          (ap (λ (s : Inside). s.len + 1) w.self-inside-is ∙ ap (λ n. n + 1) len)
          (λ h. absurd (omega (arith, h, len, w.if-self-before.false)))
          (λ _. end_there _ _ (omega arith) ∙ ap (λ (s : Inside). Some s.last) w.self-inside-is ∙ last)
    ]

pub set_after-requires-clause-link : goal.set_after-requires-clause-link
set_after-requires-clause-link c =
    subst (λ o. IfSome o (IsLive c.args.pool.now)) (sym c.after-after.ensures)
    (live_after _ _ _ _ c.requires.held c.requires.before.number)

pub relink-requires-clause-link : goal.relink-requires-clause-link
relink-requires-clause-link c =
    live (goal.at.relink-requires-clause-link c).After-set_after c.args.number c.requires.live

pub overflow_add-before : goal.overflow_add-before
overflow_add-before c = omega (arith, c.requires.before.within, ap (λ (t : TrainView). t.len) c.self.view_is)
