use Rattle.std.proofs.Common.{◌≡◌, List, length, arith}
use Rattle.std.proofs.lemmas.List.{length-map}
use Rattle.mbuf_chain.specs.Chain.{Entry}
use Rattle.chain_ops.specs.Joins.{cat}
use Rattle.chain_ops.specs.Weights.{layout_entries}
use Rattle.chain_ops.proofs.Laws.Joins.{cat_length, cat_bag, cat_fit, covers_fit}
use Rattle.chain_ops.proofs.theorems.join_weight.Goals as goal

placed_length : (es : List Entry) → length (layout_entries es) ≡ length es
placed_length es = length-map es _

pub returns-clause-mbufs : goal.returns-clause-mbufs
returns-clause-mbufs c =
    λ es fs. omega (arith, cat_length es fs, placed_length es, placed_length fs, placed_length (cat es fs))

pub returns-clause-bag : goal.returns-clause-bag
returns-clause-bag c = cat_bag

pub returns-clause-fit : goal.returns-clause-fit
returns-clause-fit c = cat_fit

pub returns-clause-covers : goal.returns-clause-covers
returns-clause-covers c = covers_fit
