use Rattle.std.proofs.Common.{◌≡◌, ◌+◌, ◌-◌, length}
use Rattle.std.specs.Option.{MatchOption}
use Rattle.mbuf_chain.specs.Chain.{IsPlace, chain_of}
use Rattle.mbuf_chain.specs.Inside.Cells.{pool_of}
use Rattle.mbuf_chain.proofs.links.last.Given as goal

abbrev pub invariant-mbufs : goal.invariant-mbufs
invariant-mbufs l = record {
  place : IsPlace (chain_of (pool_of l.store) l.start) l.at;
  after : MatchOption l.after (l.at.index + 1 ≡ length (chain_of (pool_of l.store) l.start).entries)
      (λ q. IsPlace (chain_of (pool_of l.store) l.start) q × (q.index ≡ l.at.index + 1));
}

abbrev pub decreases-mbufs : goal.decreases-mbufs
decreases-mbufs l = length (chain_of (pool_of l.store) l.start).entries - l.at.index
