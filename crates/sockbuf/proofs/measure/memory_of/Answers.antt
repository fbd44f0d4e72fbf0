use Rattle.std.proofs.Common.{length, ap, ◌∙◌, arith}
use Rattle.mbuf_chain.specs.Chain.{chain_of}
use Rattle.sockbuf.proofs.Measures.{layout_long, references_in, references_are, bag_few, chain_few}
use Rattle.sockbuf.proofs.measure.memory_of.Goals as goal

pub mbufs-init : goal.mbufs-init
mbufs-init c = record {
  seen =
      omega (
        arith,
        ap length (c.into_iter-cluster-iterator.ensures.into_iter_gives ∙ c.layout-cluster-items.ensures),
        layout_long (chain_of c.args.pool.now c.args.chain.now).entries,
      );
  count =
      omega (
        arith,
        ap references_in
            (c.into_iter-cluster-iterator.ensures.into_iter_gives ∙ c.layout-cluster-items.ensures),
        references_are (chain_of c.args.pool.now c.args.chain.now).entries,
      );
  few = chain_few _ _ c.requires c.laws.ensures;
  bag = bag_few (chain_of c.args.pool.now c.args.chain.now).entries;
}
