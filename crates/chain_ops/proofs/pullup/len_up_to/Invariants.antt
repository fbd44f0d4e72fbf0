use Rattle.std.proofs.Common.{◌≡◌, ◌+◌, ◌-◌, ◌≤◌, length, drop}
use Rattle.mbuf_chain.specs.Chain.{IsPlace, chain_of, flat_bytes}
use Rattle.chain_ops.proofs.pullup.len_up_to.Given as goal

abbrev pub invariant-mbufs : goal.invariant-mbufs
invariant-mbufs l = record {
  place : IsPlace (chain_of l.pool l.chain) l.at;
  most : l.left ≤ l.most;
  seen : l.most - l.left + length (flat_bytes (drop l.at.index (chain_of l.pool l.chain).entries))
      ≡ length (flat_bytes (chain_of l.pool l.chain).entries);
}

abbrev pub decreases-mbufs : goal.decreases-mbufs
decreases-mbufs l = length (chain_of l.pool l.chain).entries - l.at.index
