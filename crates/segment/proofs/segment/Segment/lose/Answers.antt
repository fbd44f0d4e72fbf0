use Rattle.std.proofs.Common.{◌∙◌, ap, map}
use Rattle.std.specs.Prelude.{remove, vec_capacity}
use Rattle.segment.specs.Inside.{flying, view}
use Rattle.segment.proofs.Changing.{changed}
use Rattle.segment.proofs.Frames.{map_remove}
use Rattle.segment.proofs.segment.Segment.lose.Goals as goal

pub returns-clause-lost : goal.returns-clause-lost
returns-clause-lost c =
    let frames = c.args.self.now.flight.frames.items in
    changed (view c.args.self.now) (map flying c.remove-frame.new.self.items) (remove (map flying frames) c.args.at)
    (vec_capacity c.remove-frame.new.self)
    (ap (map flying) c.remove-frame.ensures.items ∙ map_remove flying frames c.args.at) c.remove-frame.ensures.capacity
