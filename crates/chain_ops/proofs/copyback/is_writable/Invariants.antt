use Rattle.std.proofs.Common.{◌≡◌, ◌-◌, length, drop}
use Rattle.mbuf_chain.specs.Chain.{IsPlace, chain_of, references}
use Rattle.chain_ops.specs.Writes.{is_writable}
use Rattle.chain_ops.proofs.copyback.is_writable.Given as goal

abbrev pub invariant-mbufs : goal.invariant-mbufs
invariant-mbufs l = record {
  place : IsPlace (chain_of l.pool l.chain) l.at;
  same : is_writable (references l.pool) (chain_of l.pool l.chain).entries l.fn.off l.fn.len
      ≡ is_writable (references l.pool) (drop l.at.index (chain_of l.pool l.chain).entries) l.skip l.left;
}

abbrev pub decreases-mbufs : goal.decreases-mbufs
decreases-mbufs l = length (chain_of l.pool l.chain).entries - l.at.index
