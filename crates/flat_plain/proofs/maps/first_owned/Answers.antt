use Rattle.flat_plain.specs.Tables.{plain_map, plain_fragment}
use Rattle.flat_plain.proofs.Placing.{owned_is}
use Rattle.flat_plain.proofs.maps.first_owned.Goals as goal

pub returns : goal.returns
returns c =
    owned_is (plain_map c.args.cells.now) (plain_fragment c.args.fragment c.args.bytes.now) c.staying.result
    c.staying.ensures.number
