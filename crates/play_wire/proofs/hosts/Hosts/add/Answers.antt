use Rattle.play_wire.proofs.hosts.Hosts.add.Goals as goal

pub returns-in-Ok-join-clause-moves : goal.returns-in-Ok-join-clause-moves
returns-in-Ok-join-clause-moves g c = c.join.ensures
