use Rattle.std.proofs.Common.{◌+◌, Some, ◌∙◌, sym, ap, arith}
use Rattle.std.proofs.lemmas.Bool.{eqb-true, eqb-false}
use Rattle.mbuf_chain.specs.Chain.{with_chain, chain_of}
use Rattle.mbuf_chain.specs.Steps.{placed}
use Rattle.mbuf_chain.specs.Train.{TrainView}
use Rattle.mbuf_chain.specs.declared.train.Train.TheInside.{Inside}
use Rattle.mbuf_chain.proofs.Trains.{first_is, inserted_first, room_for, end_there}
use Rattle.mbuf_chain.proofs.train.Train.insert_first.Goals as goal
use Rattle.mbuf_chain.proofs.train.Train.insert_first.Goals.{then-is_only, else-is_only}

pub overflow_add-self : goal.overflow_add-self
overflow_add-self c =
    let room =
    room_for c.args.pool.now c.args.self.now c.args.number
    (placed (chain_of c.args.pool.now c.args.number) c.then_some-first.result c.args.tag) c.set_after.new.self
    c.requires.held c.requires.live c.requires.apart c.set_after.ensures.placed c.set_after.ensures.bounds in
    let len = ap (λ (t : TrainView). t.len) c.self.view_is in
    elim c.if-is_only.branch [
      | then-is_only w ↦ omega (arith, room, len, ap (λ (s : Inside). s.len) w.self-inside-is)
      | else-is_only w ↦ omega (arith, room, len, ap (λ (s : Inside). s.len) w.self-inside-is)
    ]

pub returns : goal.returns
returns c =
    let len = ap (λ (t : TrainView). t.len) c.self.view_is in
    let step =
    c.set_after.ensures.placed ∙ ap (λ o. with_chain c.args.pool.now c.args.number
    (placed (chain_of c.args.pool.now c.args.number) o c.args.tag)) (first_is c.args.self.now.first
    c.then_some-first.result c.args.self.now.len c.self.inside.len c.self.inside.first c.is_empty-is_only.result
    (ap (λ (t : TrainView). t.first) c.self.view_is) len c.is_empty-is_only.ensures c.then_some-first.ensures) in
    elim c.if-is_only.branch [
      | then-is_only w ↦
          inserted_first c.args.pool.now c.args.self.now c.args.number c.args.tag c.set_after.new.self _ c.requires.held
          c.requires.live c.requires.headed c.requires.apart step
          (end_there _ _ (omega arith) ∙ ap (λ (s : Inside). Some s.first) w.self-inside-is)
          (ap (λ (s : Inside). s.len + 1) w.self-inside-is ∙ ap (λ n. n + 1) len)
          (λ _. end_there _ _ (omega arith) ∙ ap (λ (s : Inside). Some s.last) w.self-inside-is)
          (λ h. absurd (omega (arith, h, len, eqb-true _ _ (sym c.is_empty-is_only.ensures ∙ w.if-is_only.true))))
      | else-is_only w ↦
          inserted_first c.args.pool.now c.args.self.now c.args.number c.args.tag c.set_after.new.self _ c.requires.held
          c.requires.live c.requires.headed c.requires.apart step
          (end_there _ _ (omega arith) ∙ ap (λ (s : Inside). Some s.first) w.self-inside-is)
          (ap (λ (s : Inside). s.len + 1) w.self-inside-is ∙ ap (λ n. n + 1) len)
          (λ h. absurd (omega (arith, h, len, eqb-false _ _ (sym c.is_empty-is_only.ensures ∙ w.if-is_only.false))))
          (λ h.
          end_there _ _ (omega arith)
          ∙ ap (λ (s : Inside). Some s.last) w.self-inside-is
          ∙ sym (end_there c.self.inside.len c.self.inside.last (omega (arith, h, len)))
          ∙ ap (λ (t : TrainView). t.last) c.self.view_is)
    ]
