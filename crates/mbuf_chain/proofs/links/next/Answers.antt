use Rattle.std.proofs.Common.{refl, arith}
use Rattle.mbuf_chain.proofs.Heads.{shown_at}
use Rattle.mbuf_chain.proofs.Places.{next_place, next_none, live_cells}
use Rattle.mbuf_chain.proofs.links.next.Goals as goal

pub head-requires : goal.head-requires
head-requires c = (shown_at c.requires).out

pub overflow_add-result : goal.overflow_add-result
overflow_add-result c =
    omega (
      arith,
      (live_cells c.args.store.now c.args.first c.requires.pool c.requires.live).few,
      c.requires.place.within,
    )

pub returns-in-Some : goal.returns-in-Some
returns-in-Some c =
    (next_place c.requires c.head.ensures.value c.in-Some.is, refl)

pub returns-in-None : goal.returns-in-None
returns-in-None c = next_none c.requires c.head.ensures.value c.in-None.is
