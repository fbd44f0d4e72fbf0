use Rattle.std.proofs.Common.{◌≡◌, ◌-◌, ◌++◌, length, drop}
use Rattle.mbuf_chain.specs.Chain.{IsPlace, chain_of}
use Rattle.chain_script.specs.Drawings.{mbuf_lines}
use Rattle.chain_script.proofs.draw.put_chain.Given as goal

abbrev pub invariant-mbufs : goal.invariant-mbufs
invariant-mbufs l = record {
  place : IsPlace (chain_of l.pool l.chain) l.at;
  items : l.text.items ++ mbuf_lines l.seen l.header (drop l.at.index (chain_of l.pool l.chain).entries)
      ≡ l.fn.text.items ++ mbuf_lines l.seen (chain_of l.pool l.chain).front.header (chain_of l.pool l.chain).entries;
}

abbrev pub decreases-mbufs : goal.decreases-mbufs
decreases-mbufs l = length (chain_of l.pool l.chain).entries - l.at.index
