use Rattle.std.proofs.Common.{◌∙◌, ap, length, sym}
use Rattle.raw_cells.specs.Cells.{Cells}
use Rattle.mbuf_pool.proofs.Reading.{room_is}
use Rattle.mbuf_pool.proofs.Effects.{copied, leaves_store}
use Rattle.mbuf_pool.proofs.store.Store.copy.Goals as goal

pub copy-requires-clause-from : goal.copy-requires-clause-from
copy-requires-clause-from c =
    let p = c.args.from in
    room_is c.self.inside c.args.self.now c.self.invariant c.self.view_is p.buffer p.start p.len c.requires.from

pub copy-requires-clause-to : goal.copy-requires-clause-to
copy-requires-clause-to c =
    let p = c.args.to in
    room_is c.self.inside c.args.self.now c.self.invariant c.self.view_is p.buffer p.start p.len c.requires.to

pub invariant_of-self : goal.invariant_of-self
invariant_of-self c = (
  c.self.invariant.0 ∙ sym (ap (λ (x : Cells). length x.heads) c.copy.ensures.change),
  (copied c.self.inside c.args.self.now c.self.invariant c.self.view_is c.args.from c.args.to c.copy.new.self
      c.requires.from c.requires.to c.copy.ensures.change).account,
)

pub returns-clause-change : goal.returns-clause-change
returns-clause-change c =
    (copied c.self.inside c.args.self.now c.self.invariant c.self.view_is c.args.from c.args.to c.copy.new.self
    c.requires.from c.requires.to c.copy.ensures.change).seen

pub returns-clause-store : goal.returns-clause-store
returns-clause-store c =
    leaves_store (copied c.self.inside c.args.self.now c.self.invariant c.self.view_is c.args.from c.args.to
    c.copy.new.self c.requires.from c.requires.to c.copy.ensures.change)
