use Rattle.std.proofs.Common.{◌≡◌, ◌+◌, ◌≤◌, length}
use Rattle.mbuf_chain.specs.Chain.{chain_of}
use Rattle.ledger.specs.Accounts.{entries_weight}
use Rattle.sockbuf.proofs.Measures.{references_in}
use Rattle.sockbuf.proofs.measure.memory_of.Given as goal

abbrev pub invariant-mbufs : goal.invariant-mbufs
invariant-mbufs l = record {
  seen : l.mbufs + length l.cluster-iterator ≡ length (chain_of l.pool l.chain).entries;
  count : l.clusters + references_in l.cluster-iterator ≡ length (entries_weight (chain_of l.pool l.chain).entries).bag;
  few : length (chain_of l.pool l.chain).entries ≤ 65535;
  bag : length (entries_weight (chain_of l.pool l.chain).entries).bag ≤ length (chain_of l.pool l.chain).entries;
}
