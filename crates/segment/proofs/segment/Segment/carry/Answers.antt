use Rattle.segment.specs.Inside.{view}
use Rattle.segment.proofs.segment.Segment.carry.Goals as goal

pub returns : goal.returns
returns c = (view c.collect.new.self, c.collect.ensures, c.deliver.ensures)
