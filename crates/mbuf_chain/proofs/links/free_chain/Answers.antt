use Rattle.mbuf_chain.proofs.Focused.{open_on, freeable}
use Rattle.mbuf_chain.proofs.Joins.{freed_all}
use Rattle.mbuf_chain.proofs.links.free_chain.Goals as goal

pub free_from-requires : goal.free_from-requires
free_from-requires c = freeable _ _ (open_on _ _ c.requires.pool c.requires.live).at

pub returns-clause-pool : goal.returns-clause-pool
returns-clause-pool c =
    (freed_all _ _ _ c.requires.pool c.requires.live c.free_from.ensures.freed c.free_from.ensures.store).0

pub returns-clause-change : goal.returns-clause-change
returns-clause-change c =
    (freed_all _ _ _ c.requires.pool c.requires.live c.free_from.ensures.freed c.free_from.ensures.store).1
