use Rattle.std.proofs.Common.{◌∙◌, refl}
use Rattle.mbuf_pool.proofs.Reading.{room_is, read_is, store_is}
use Rattle.mbuf_pool.proofs.Effects.{written}
use Rattle.mbuf_pool.proofs.store.Store.bytes_mut.Goals as goal

pub bytes_mut-requires : goal.bytes_mut-requires
bytes_mut-requires c =
    let p = c.args.part in
    room_is c.self.inside c.args.self.now c.self.invariant c.self.view_is p.buffer p.start p.len c.requires

pub invariant_of-self-lent : goal.invariant_of-self-lent
invariant_of-self-lent c =
    let p = c.args.part in
    λ w. (
      c.self.invariant.0,
      (written c.self.inside c.args.self.now c.self.invariant c.self.view_is p.buffer p.start
          p.len w c.requires).account,
    )

pub returns : goal.returns
returns c =
    let s = c.self.inside in let v = c.args.self.now in let p = c.args.part in (
      (refl, λ w. (written s v c.self.invariant c.self.view_is p.buffer p.start p.len w c.requires).seen),
      record {
        writes_back = tt;
        value =
            c.bytes_mut.ensures.value ∙ read_is s v c.self.invariant c.self.view_is p.buffer p.start p.len c.requires;
        len = c.bytes_mut.ensures.len;
        store = store_is s v c.self.invariant c.self.view_is;
      },
    )
