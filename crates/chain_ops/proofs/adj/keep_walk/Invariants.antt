use Rattle.std.proofs.Common.{◌≡◌, ◌-◌, ◌++◌, length, take, drop}
use Rattle.mbuf_chain.specs.Chain.{IsPlace, chain_of}
use Rattle.mbuf_chain.specs.Steps.{with_entries_in}
use Rattle.chain_ops.specs.Trims.{only_first}
use Rattle.chain_ops.proofs.adj.keep_walk.Given as goal

abbrev pub invariant-mbufs : goal.invariant-mbufs
invariant-mbufs l = record {
  step : l.pool ≡ with_entries_in l.fn.pool l.chain (chain_of l.pool l.chain).entries;
  all : take l.at.index (chain_of l.pool l.chain).entries
      ++ only_first l.left (drop l.at.index (chain_of l.pool l.chain).entries)
      ≡ only_first l.keep (chain_of l.fn.pool l.chain).entries;
  place : IsPlace (chain_of l.pool l.chain) l.at;
}

abbrev pub decreases-mbufs : goal.decreases-mbufs
decreases-mbufs l = length (chain_of l.pool l.chain).entries - l.at.index
