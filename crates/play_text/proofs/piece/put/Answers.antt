use Rattle.std.proofs.Common.{arith}
use Rattle.play_text.proofs.PieceLemmas.{all_put, next_fits, one_more, others_fit}
use Rattle.play_text.proofs.piece.put.Goals as goal

pub put_piece-requires : goal.put_piece-requires
put_piece-requires g c = (
  omega arith,
  next_fits c.args.pieces.now c.loop-piece.piece-index _ _ _ _ c.loop-piece-test.true
      c.loop-piece.invariant.len c.requires,
)

pub loop-piece-preserved : goal.loop-piece-preserved
loop-piece-preserved g c = record {
  items =
      one_more c.args.pieces.now c.loop-piece.piece-index _ _ _ _ c.loop-piece-test.true c.loop-piece.invariant.items
      c.put_piece.ensures.items;
  len =
      others_fit c.args.pieces.now c.loop-piece.piece-index _ _ _ _ c.loop-piece-test.true c.loop-piece.invariant.len
      c.put_piece.ensures.len;
}

pub returns-clause-items : goal.returns-clause-items
returns-clause-items g c =
    all_put c.args.pieces.now c.loop-piece.piece-index _ _ c.loop-piece-test.false c.loop-piece.invariant.items
