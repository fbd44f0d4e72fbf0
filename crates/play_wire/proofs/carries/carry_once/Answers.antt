use Rattle.segment.specs.Inside.{view}
use Rattle.play_wire.proofs.ActLemmas.{moves_on}
use Rattle.play_wire.proofs.carries.carry_once.Goals as goal

pub returns : goal.returns
returns g c =
    let first = view c.args.segment.now in
    let gone = view c.send.new.segment in
    let come = view c.bring.new.segment in
    moves_on first come (view c.settle.new.segment) (moves_on first gone come c.send.ensures c.bring.ensures)
    c.settle.ensures
