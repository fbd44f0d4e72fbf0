use Rattle.std.proofs.Common.{◌≡◌, ◌+◌, ◌≤◌, length, drop}
use Rattle.play_text.specs.Pieces.{pieces_after, pieces_room}
use Rattle.play_text.proofs.piece.put.Given as goal

abbrev pub invariant-loop-piece : goal.invariant-loop-piece
invariant-loop-piece g l = record {
  items : pieces_after l.text (drop l.piece-index l.pieces) ≡ pieces_after l.fn.text l.pieces;
  len : length l.text + pieces_room (drop l.piece-index l.pieces) ≤ length l.fn.text + pieces_room l.pieces;
}
