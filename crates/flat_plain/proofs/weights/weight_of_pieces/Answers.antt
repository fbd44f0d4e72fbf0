use Rattle.std.proofs.Common.{sym, arith}
use Rattle.flat_plain.specs.Tables.{plain_map}
use Rattle.flat_plain.proofs.Weighing.{pieces_none, pieces_more, pieces_all}
use Rattle.flat_plain.proofs.weights.weight_of_pieces.Goals as goal

pub loop-k-init : goal.loop-k-init
loop-k-init c =
    record { weight = rw c.new.ensures.items (sym (pieces_none (plain_map c.args.cells.now))); most = omega arith }

pub loop-k-preserved : goal.loop-k-preserved
loop-k-preserved c =
    record {
      weight = pieces_more c.args.cells.now c.loop-k.k _ _ c.loop-k.invariant.weight
          c.in_ok-add_piece.ensures.weight;
      most = omega (arith, c.loop-k.invariant.most, c.in_ok-add_piece.ensures.most);
    }

pub returns : goal.returns
returns c = pieces_all c.args.cells.now c.loop-k.k _ (omega arith) (omega arith) c.loop-k.invariant.weight
