use Rattle.std.proofs.Common.{◌≡◌, ◌-◌, length, drop}
use Rattle.mbuf_chain.specs.Chain.{IsPlace, chain_of}
use Rattle.chain_script.specs.Drawings.{collected_all}
use Rattle.chain_script.proofs.draw.collect_chain.Given as goal

abbrev pub invariant-mbufs : goal.invariant-mbufs
invariant-mbufs l = record {
  place : IsPlace (chain_of l.pool l.chain) l.at;
  items : collected_all l.seen.items (drop l.at.index (chain_of l.pool l.chain).entries)
      ≡ collected_all l.fn.seen.items (chain_of l.pool l.chain).entries;
}

abbrev pub decreases-mbufs : goal.decreases-mbufs
decreases-mbufs l = length (chain_of l.pool l.chain).entries - l.at.index
