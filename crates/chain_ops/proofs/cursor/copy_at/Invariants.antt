use Rattle.std.proofs.Common.{◌≡◌, ◌+◌, ◌-◌, ◌≤◌, ◌++◌, length, drop}
use Rattle.mbuf_chain.specs.Chain.{IsPlace, chain_of, flat_bytes, alone}
use Rattle.chain_ops.specs.Makes.{Makes}
use Rattle.chain_ops.specs.Copies.{copied, copied_from}
use Rattle.chain_ops.proofs.cursor.copy_at.Given as goal

abbrev pub invariant-mbufs : goal.invariant-mbufs
invariant-mbufs l = record {
  made : Makes l.fn.pool l.pool l.copy (alone l.header) (chain_of l.pool l.copy).entries;
  all : (chain_of l.pool l.copy).entries
      ++ copied_from 20 (drop (l.at.index + 1) (chain_of l.fn.pool l.chain).entries) 0 l.left
      ≡ copied l.header (chain_of l.fn.pool l.chain).entries l.fn.from.off l.len;
  place : IsPlace (chain_of l.fn.pool l.chain) l.at;
  within : l.left ≤ length (flat_bytes (drop (l.at.index + 1) (chain_of l.fn.pool l.chain).entries));
  last : IsPlace (chain_of l.pool l.copy) l.last;
  end : l.last.index + 1 ≡ length (chain_of l.pool l.copy).entries;
}

abbrev pub decreases-mbufs : goal.decreases-mbufs
decreases-mbufs l = length (chain_of l.fn.pool l.chain).entries - l.at.index
