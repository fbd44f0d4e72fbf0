use Rattle.std.proofs.Common.{◌∙◌, arith, inl}
use Rattle.chain_ops.proofs.Lists.{position_here}
use Rattle.chain_ops.proofs.cursor.cursor_at.Goals as goal

pub returns-clause-cursor : goal.returns-clause-cursor
returns-clause-cursor c = record {
  place = c.mbufs.invariant.place;
  position = c.mbufs.invariant.position ∙ position_here _ _ _ c.mbufs.invariant.place (inl (omega arith));
}
