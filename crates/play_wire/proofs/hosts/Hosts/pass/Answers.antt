use Rattle.segment.specs.Inside.{view}
use Rattle.play_wire.proofs.ActLemmas.{moves_on}
use Rattle.play_wire.proofs.hosts.Hosts.pass.Goals as goal

pub returns-clause-moves : goal.returns-clause-moves
returns-clause-moves g c =
    let counted = view c.take_counts.new.segment in
    let carried = view c.carry.new.segment in
    moves_on (view c.args.self.now.segment) counted (view c.add_all.new.segment) c.take_counts.ensures
    (moves_on counted carried (view c.add_all.new.segment) c.carry.ensures c.add_all.ensures)
