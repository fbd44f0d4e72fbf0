use Rattle.std.proofs.Common.{◌+◌, ◌*◌, ◌<◌}
use Rattle.mbuf_chain.specs.Chain.{chain_of}
use Rattle.chain_ops.specs.Cursors.{IsCursor}
use Rattle.ip_out.specs.Inside.{IsLater, parts_to}
use Rattle.ip_out.proofs.fragments.later.Given as goal

abbrev pub invariant-parts : goal.invariant-parts
invariant-parts l = record {
  later : IsLater l.fn.pool l.pool l.train (chain_of l.fn.pool l.chain) l.head (parts_to l.n l.cut.chunk l.i);
  cursor : IsCursor (chain_of l.fn.pool l.chain) l.from;
  after : l.from.off < 20 + l.i * l.cut.chunk;
}
