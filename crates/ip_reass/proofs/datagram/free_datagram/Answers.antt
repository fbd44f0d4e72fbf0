use Rattle.mbuf_chain.proofs.Laws.Owners.{moves_trans}
use Rattle.ip_reass.proofs.Tables.{emptied}
use Rattle.ip_reass.proofs.datagram.free_datagram.Goals as goal

pub free-requires : goal.free-requires
free-requires c =
    (emptied c.args.pool.now c.free_chain.new.self c.args.datagram c.requires.owned c.requires.held
    c.free_chain.ensures).held_q

pub returns : goal.returns
returns c =
    moves_trans (emptied c.args.pool.now c.free_chain.new.self c.args.datagram c.requires.owned c.requires.held
    c.free_chain.ensures).moves c.free.ensures
