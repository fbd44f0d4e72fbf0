use Rattle.std.proofs.Common.{arith, sym, true}
use Rattle.flat_model.specs.Fragments.Overlay.{stays}
use Rattle.flat_plain.specs.Tables.{plain_map}
use Rattle.flat_plain.proofs.Placing.{count_next}
use Rattle.flat_plain.proofs.maps.+staying.Goals as goal

pub returns-then-stays-clause-number : goal.returns-then-stays-clause-number
returns-then-stays-clause-number t c =
    count_next (λ k. stays c.args.offset (plain_map c.args.cells.now k)) c.args.at c.args.n c.staying-later.result true
    (omega arith) (sym c.if-stays.ensures) c.staying-later.ensures.number
