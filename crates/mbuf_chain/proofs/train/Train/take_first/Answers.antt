use Rattle.std.proofs.Common.{ℕ, ◌<◌, Option, ◌∙◌, sym, ap, arith}
use Rattle.std.specs.Prelude.{unwrap_or}
use Rattle.mbuf_chain.specs.Train.{TrainView}
use Rattle.mbuf_chain.proofs.Trains.{taken_first, first_after, end_there, no_end}
use Rattle.mbuf_chain.proofs.train.Train.take_first.Goals as goal

pub returns : goal.returns
returns c =
    let len = ap (λ (t : TrainView). t.len) c.self.view_is in
    let some : 0 < c.self.inside.len = omega (arith, len, c.requires.some) in
    let first =
    sym (ap (λ (t : TrainView). t.first) c.self.view_is) ∙ end_there c.self.inside.len c.self.inside.first some in
    let after = c.unwrap_or-self-inside.ensures ∙ ap (λ (o : Option ℕ). unwrap_or o 0) c.after-after.ensures in
    taken_first c.args.pool.now c.args.self.now c.self.inside.first c.tag-tag.result c.set_after.new.self _
    c.requires.held first c.requires.some c.tag-tag.ensures c.set_after.ensures.placed
    (first_after c.args.pool.now c.args.self.now c.self.inside.first _ _ c.requires.held first
    (omega (arith, len, c.requires.some)) after) (omega (arith, len, c.requires.some)) (λ h. no_end _ _
    (omega (arith, h, len)))
    (λ h. end_there _ _ (omega (arith, h, len)) ∙ sym (end_there c.self.inside.len c.self.inside.last some)
    ∙ ap (λ (t : TrainView). t.last) c.self.view_is)
