use Rattle.std.proofs.Common.{arith}
use Rattle.mbuf_chain.proofs.Laws.Owners.{moves_trans}
use Rattle.mbuf_chain.proofs.Trains.{freed_packet}
use Rattle.mbuf_chain.proofs.reclaim.TrainReclaim.reclaim.Goals as goal

pub chains-preserved : goal.chains-preserved
chains-preserved c =
    let freed =
    freed_packet c.chains.invariant.held c.take-chain.ensures.held c.take-chain.ensures.moves c.free_chain.ensures in
    record {
      len = omega (arith, c.take-chain.ensures.len, c.chains.invariant.len);
      held = freed.held;
      moves = moves_trans c.chains.invariant.moves freed.moves;
    }
