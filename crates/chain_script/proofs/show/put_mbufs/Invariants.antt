use Rattle.std.proofs.Common.{◌≡◌, ◌≤◌, ◌+◌, ◌-◌, ◌*◌, ◌++◌, length, drop}
use Rattle.std.specs.Prelude.{flat_map}
use Rattle.mbuf_chain.specs.Chain.{IsPlace, chain_of, references}
use Rattle.chain_script.specs.Steps.{shape_text, shapes_of}
use Rattle.chain_script.proofs.show.put_mbufs.Given as goal

abbrev pub invariant-mbufs : goal.invariant-mbufs
invariant-mbufs l = record {
  place : IsPlace (chain_of l.pool l.chain) l.at;
  items : l.text ++ flat_map shape_text
      (shapes_of (references l.pool) (drop l.at.index (chain_of l.pool l.chain).entries))
      ≡ l.fn.text ++ flat_map shape_text (shapes_of (references l.pool) (chain_of l.pool l.chain).entries);
  len : length l.text ≤ length l.fn.text + 23 * l.at.index;
}

abbrev pub decreases-mbufs : goal.decreases-mbufs
decreases-mbufs l = length (chain_of l.pool l.chain).entries - l.at.index
