use Rattle.std.proofs.Common.{◌+◌, ◌∙◌, ap, arith, inl}
use Rattle.mbuf_chain.specs.Chain.{chain_of}
use Rattle.chain_ops.specs.Copies.{Position, position_of}
use Rattle.chain_ops.proofs.Lists.{position_here, position_on, cursor_left, cursor_most}
use Rattle.chain_ops.proofs.cursor.advance.Goals as goal

pub overflow_add-skip : goal.overflow_add-skip
overflow_add-skip c = omega (arith, cursor_most _ _ c.requires.cursor, c.requires.small)

pub mbufs-init : goal.mbufs-init
mbufs-init c = record {
  place = c.requires.cursor.place;
  position =
      position_on (chain_of c.args.pool.now c.args.chain.now).entries c.args.from.off c.args.by
      ∙ ap (λ (s : Position). position_of s.entries (s.skip + c.args.by)) c.requires.cursor.position;
  left = omega (arith, cursor_left _ _ c.requires.cursor);
}

pub returns-clause-cursor : goal.returns-clause-cursor
returns-clause-cursor c = record {
  place = c.mbufs.invariant.place;
  position = c.mbufs.invariant.position ∙ position_here _ _ _ c.mbufs.invariant.place (inl (omega arith));
}
