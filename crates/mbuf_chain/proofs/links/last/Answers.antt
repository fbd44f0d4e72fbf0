use Rattle.mbuf_chain.proofs.Places.{first_place}
use Rattle.mbuf_chain.proofs.links.last.Goals as goal

pub next-after-requires : goal.next-after-requires
next-after-requires c = record {
  pool = c.requires.pool;
  live = c.requires.live;
  place = first_place c.args.store.now c.args.start c.requires.pool c.requires.live;
}

pub mbufs-init : goal.mbufs-init
mbufs-init c = record {
  place = first_place c.args.store.now c.args.start c.requires.pool c.requires.live;
  after = c.next-after.ensures;
}
