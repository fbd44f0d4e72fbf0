use Rattle.play_wire.proofs.hosts.Hosts.carry.Goals as goal

pub returns-clause-carries : goal.returns-clause-carries
returns-clause-carries g c = (c.pass.ensures.moves.0, c.pass.ensures.moves.1, c.report_left.ensures)
