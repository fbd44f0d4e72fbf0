use Rattle.std.proofs.Common.{◌≡◌, ◌+◌, ◌-◌, length, drop}
use Rattle.mbuf_chain.specs.Chain.{IsPlace, chain_of, flat_bytes}
use Rattle.chain_ops.specs.Copies.{position_of}
use Rattle.chain_ops.proofs.cursor.advance.Given as goal

abbrev pub invariant-mbufs : goal.invariant-mbufs
invariant-mbufs l = record {
  place : IsPlace (chain_of l.pool l.chain) l.place;
  position : position_of (chain_of l.pool l.chain).entries l.off
      ≡ position_of (drop l.place.index (chain_of l.pool l.chain).entries) l.skip;
  left : l.off + length (flat_bytes (drop l.place.index (chain_of l.pool l.chain).entries))
      ≡ l.skip + length (flat_bytes (chain_of l.pool l.chain).entries);
}

abbrev pub decreases-mbufs : goal.decreases-mbufs
decreases-mbufs l = length (chain_of l.pool l.chain).entries - l.place.index
