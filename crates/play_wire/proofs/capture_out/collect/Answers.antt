use Rattle.play_wire.proofs.capture_out.collect.Goals as goal

pub returns : goal.returns
returns g c = c.collect.ensures
