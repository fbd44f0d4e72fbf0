use Rattle.play_wire.proofs.PlayLemmas.{waited_none, waited_some}
use Rattle.segment.specs.Inside.{view}
use Rattle.play_wire.proofs.hosts.Hosts.wait.Goals as goal

pub returns-then-ticks-eq0-clause-waited : goal.returns-then-ticks-eq0-clause-waited
returns-then-ticks-eq0-clause-waited g c =
    waited_none c.args.ticks (view c.args.self.now.segment) c.if-ticks-eq0.true

pub returns-clause-waited : goal.returns-clause-waited
returns-clause-waited g c =
    waited_some c.args.ticks (view c.args.self.now.segment) (view c.tick.new.self.segment) c.if-ticks-eq0.false
    c.tick.ensures.moves
