use Rattle.std.proofs.Common.{subst, arith}
use Rattle.mbuf_chain.specs.Owners.{Moves}
use Rattle.mbuf_chain.specs.Train.{numbers}
use Rattle.mbuf_chain.proofs.Laws.Owners.{moves_none, moves_trans}
use Rattle.mbuf_chain.proofs.Trains.{freed_packet, none_left}
use Rattle.mbuf_chain.proofs.train.Train.free.Goals as goal

pub chains-init : goal.chains-init
chains-init c = record { held = c.requires; moves = moves_none c.args.pool.now (numbers c.args.pool.now c.args.self) }

pub take-chain-requires-clause-held : goal.take-chain-requires-clause-held
take-chain-requires-clause-held c = c.chains.invariant.held

pub chains-smaller : goal.chains-smaller
chains-smaller c = omega (arith, c.take-chain.ensures.len)

pub chains-preserved : goal.chains-preserved
chains-preserved c =
    let freed =
    freed_packet c.chains.invariant.held c.take-chain.ensures.held c.take-chain.ensures.moves c.free_chain.ensures in
    record { held = freed.held; moves = moves_trans c.chains.invariant.moves freed.moves }

pub returns : goal.returns
returns c =
    subst (Moves c.args.pool.now (numbers c.args.pool.now c.args.self) c.chains.pool)
    (none_left c.chains.pool c.chains.self (omega (arith, c.len.ensures, c.chains-test.false)))
    c.chains.invariant.moves
