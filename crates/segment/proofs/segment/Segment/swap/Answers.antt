use Rattle.std.proofs.Common.{◌∙◌, ap, map, arith}
use Rattle.std.specs.Prelude.{vec_capacity}
use Rattle.segment.specs.Inside.{flying, view}
use Rattle.segment.proofs.Changing.{both_swap, changed}
use Rattle.segment.proofs.segment.Segment.swap.Goals as goal

pub returns-clause-swapped : goal.returns-clause-swapped
returns-clause-swapped c =
    let frames = c.args.self.now.flight.frames.items in
    changed (view c.args.self.now) (map flying c.swap.new.self.items) _ (vec_capacity c.swap.new.self)
    (ap (map flying) c.swap.ensures.items
    ∙ both_swap frames c.args.at c.args.other (omega (arith, c.if-at-len.false, c.len.ensures))
    (omega (arith, c.if-other-len.false, c.len-else-at-len.ensures)))
    c.swap.ensures.capacity
