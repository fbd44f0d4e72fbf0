use Rattle.std.proofs.Common.{true, refl, sym, arith}
use Rattle.flat_model.specs.Amounts.Layout.{need_of, wire}
use Rattle.chain_ops.specs.Stored.{Has}
use Rattle.net_stack.specs.Inside.Hosts.{HasAsked}
use Rattle.net_stack.proofs.Space.{free_cluster, free_mbuf, free_two}
use Rattle.net_stack.proofs.InPlace.{asked_now}
use Rattle.net_stack.proofs.host.Host.make_space.Goals as goal
use Rattle.net_stack.proofs.host.Host.make_space.Goals.{After-space_for}

-- the buffers are free, and nothing has changed
asked : (c : After-space_for) → Has c.args.self.now.pool (wire c.args.len)
    → HasAsked c.args.self.now (need_of (wire c.args.len)) true c.args.self.now
asked c free = record {
  asked = asked_now c.args.self.now.pool c.args.self.now.reass c.args.self.now.net.counters c.args.len free;
  ready = c.requires.ready;
  socks = refl;
  output = refl;
}

pub returns-in-InMbuf-clause-asked : goal.returns-in-InMbuf-clause-asked
returns-in-InMbuf-clause-asked c =
    asked (goal.at.returns-in-InMbuf-clause-asked c).After-space_for
    (free_mbuf c.args.self.now.pool c.args.len c.in-InMbuf.ensures (sym c.if-are_free.ensures))

pub returns-in-InCluster-clause-asked : goal.returns-in-InCluster-clause-asked
returns-in-InCluster-clause-asked c =
    asked (goal.at.returns-in-InCluster-clause-asked c).After-space_for
    (free_cluster c.args.self.now.pool c.args.len c.in-InCluster.ensures (sym c.if-are_free-2.ensures))

pub returns-in-InMore : goal.returns-in-InMore
returns-in-InMore c =
    let p = c.args.self.now.pool in
    let free = free_two p c.args.len c.in-InMore.ensures (omega arith) (sym c.if-are_free-3.ensures) in
    record { asked = asked (goal.at.returns-in-InMore c).After-space_for free; space = free; free = free }
