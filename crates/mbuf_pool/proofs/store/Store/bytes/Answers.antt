use Rattle.std.proofs.Common.{◌∙◌}
use Rattle.mbuf_pool.proofs.Reading.{room_is, read_is}
use Rattle.mbuf_pool.proofs.store.Store.bytes.Goals as goal

pub bytes-requires : goal.bytes-requires
bytes-requires c =
    let p = c.args.part in
    room_is c.self.inside c.args.self.now c.self.invariant c.self.view_is p.buffer p.start p.len c.requires

pub returns-clause-value : goal.returns-clause-value
returns-clause-value c =
    let p = c.args.part in
    c.bytes.ensures.value ∙ read_is c.self.inside c.args.self.now c.self.invariant c.self.view_is p.buffer p.start p.len
    c.requires
