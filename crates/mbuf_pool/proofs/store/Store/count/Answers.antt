use Rattle.std.proofs.Common.{◌∙◌, arith}
use Rattle.std.proofs.lemmas.Grind.{get_or_default_zero}
use Rattle.mbuf_pool.proofs.Reading.{counts_are, count_is}
use Rattle.mbuf_pool.proofs.store.Store.count.Goals as goal

pub index-requires : goal.index-requires
index-requires c = omega (arith, counts_are c.self.inside c.args.self.now c.self.invariant c.self.view_is)

pub returns-clause-value : goal.returns-clause-value
returns-clause-value c =
    let s = c.self.inside in
    c.from.ensures
    ∙ c.index.ensures
    ∙ get_or_default_zero s.counts.items c.args.cluster c.index.result.now
    (omega (arith, counts_are s c.args.self.now c.self.invariant c.self.view_is))
    ∙ count_is s c.args.self.now c.self.invariant c.self.view_is c.args.cluster c.requires
