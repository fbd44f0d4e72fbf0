use Rattle.std.proofs.Common.{◌≡◌, ◌+◌, ◌≤◌, ◌++◌, false, length, replicate}
use Rattle.mbuf_chain.specs.Chain.{IsPlace, chain_of, alone}
use Rattle.chain_ops.specs.Makes.{Makes}
use Rattle.chain_ops.specs.Writes.{in_plain}
use Rattle.chain_ops.proofs.copyback.new_tail.Given as goal

abbrev pub invariant-mbufs : goal.invariant-mbufs
invariant-mbufs l = record {
  made : Makes l.fn.pool l.pool l.chain (alone false) (chain_of l.pool l.chain).entries;
  all : (chain_of l.pool l.chain).entries ++ in_plain (replicate l.blank 0 ++ l.rest)
      ≡ in_plain (replicate l.gap 0 ++ l.bytes);
  most : l.blank + length l.rest ≤ 65535;
  last : IsPlace (chain_of l.pool l.chain) l.last;
  end : l.last.index + 1 ≡ length (chain_of l.pool l.chain).entries;
}

abbrev pub decreases-mbufs : goal.decreases-mbufs
decreases-mbufs l = l.blank + length l.rest
