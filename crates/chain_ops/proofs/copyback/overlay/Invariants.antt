use Rattle.std.proofs.Common.{◌≡◌, ℕ, ◌-◌, ◌++◌, true, length, take, drop}
use Rattle.mbuf_chain.specs.Chain.{IsPlace, chain_of, references}
use Rattle.mbuf_chain.specs.Steps.{with_entries_in}
use Rattle.chain_ops.specs.Writes.{is_writable, overlaid}
use Rattle.chain_ops.proofs.copyback.overlay.Given as goal

abbrev pub invariant-mbufs : goal.invariant-mbufs
invariant-mbufs l = record {
  step : l.pool ≡ with_entries_in l.fn.pool l.chain (chain_of l.pool l.chain).entries;
  all : take l.at.index (chain_of l.pool l.chain).entries
      ++ overlaid (drop l.at.index (chain_of l.pool l.chain).entries) l.skip l.rest
      ≡ overlaid (chain_of l.fn.pool l.chain).entries l.fn.off l.bytes;
  place : IsPlace (chain_of l.pool l.chain) l.at;
  counts : (k : ℕ) → references l.pool k ≡ references l.fn.pool k;
  writable : is_writable (references l.fn.pool) (drop l.at.index (chain_of l.pool l.chain).entries) l.skip
      (length l.rest) ≡ true;
}

abbrev pub decreases-mbufs : goal.decreases-mbufs
decreases-mbufs l = length (chain_of l.pool l.chain).entries - l.at.index
