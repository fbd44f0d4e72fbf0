use Rattle.std.proofs.Common.{[], ap, sym, subst, ◌∙◌}
use Rattle.mbuf_chain.specs.Owners.{Moves}
use Rattle.mbuf_chain.specs.Train.{TrainView, numbers}
use Rattle.ip_out.specs.Queues.{IsOutputQueue}
use Rattle.ip_reass.specs.Table.{IsTable, held_all}
use Rattle.sock_calls.specs.Sockets.{AreEmpty}
use Rattle.net_stack.specs.Boots.{free_pool}
use Rattle.net_stack.specs.Inside.Fields.{Fields, IsStackInside}
use Rattle.net_stack.specs.Stack.{StackView}
use Rattle.net_stack.specs.declared.host.Host.{Host}
use Rattle.net_stack.proofs.CallLemmas.{lent, lent_inside, lent_shows}
use Rattle.net_stack.proofs.Boot.{socks_gone, reass_gone, all_gone}
use Rattle.net_stack.proofs.stack.Stack.end.Goals as goal
use Rattle.net_stack.proofs.stack.Stack.end.Goals.{After-flush, After-end}

pub flush-requires : goal.flush-requires
flush-requires c = (lent_inside c.self.inside c.as_mut-parts.result.now c.as_mut-parts.ensures.value
    c.self.invariant).stack.socks

pub end_empty-requires : goal.end_empty-requires
end_empty-requires c = subst (λ (h : Host). AreEmpty h.socks.queues) (sym c.into_inner-pool.ensures)
    c.flush.ensures.empty

-- the host is that of the stack, and the fragments leave it after the sockets
is : (c : After-flush) → IsStackInside (lent c.self.inside c.as_mut-parts.result.now)
is c = lent_inside c.self.inside c.as_mut-parts.result.now c.as_mut-parts.ensures.value c.self.invariant

gone : (c : After-end) → Moves c.flush.new.pool
    (held_all c.flush.new.pool (lent c.self.inside c.as_mut-parts.result.now).host.reass.datagrams) c.end.new.pool []
gone c =
    subst (λ (h : Host). Moves h.pool (held_all h.pool h.reass.datagrams) c.end.new.pool []) c.into_inner-pool.ensures
    c.end.ensures

pub end-requires : goal.end-requires
end-requires c =
    subst (λ (h : Host). IsTable h.pool h.reass.datagrams) (sym c.into_inner-pool.ensures)
    (socks_gone (lent c.self.inside c.as_mut-parts.result.now) c.flush.new.pool
    (is (goal.at.end-requires c).After-flush).stack c.flush.ensures.moves).reass.table.table

pub end-requires-2-clause-out : goal.end-requires-2-clause-out
end-requires-2-clause-out c =
    let at = goal.at.end-requires-2-clause-out c in
    subst (λ (h : Host). IsOutputQueue c.end.new.pool h.net.out) (sym c.into_inner-pool.ensures)
    (reass_gone (lent c.self.inside c.as_mut-parts.result.now) c.flush.new.pool c.end.new.pool
    (is at.After-flush).stack c.flush.ensures.moves (gone at.After-end)).output.queue

pub end-requires-2-clause-none : goal.end-requires-2-clause-none
end-requires-2-clause-none c =
    ap (λ (h : Host). h.net.looped.len) c.into_inner-pool.ensures
    ∙ ap (λ (t : TrainView). t.len) (is (goal.at.end-requires-2-clause-none c).After-flush).looped

pub returns : goal.returns
returns c =
    let f : Fields = lent c.self.inside c.as_mut-parts.result.now in
    let at = goal.at.returns c in
    let all = (is at.After-flush).stack in
    all_gone f c.end.new.pool c.end-2.new.pool all
    (reass_gone f c.flush.new.pool c.end.new.pool all c.flush.ensures.moves (gone at.After-end))
    (subst (λ (h : Host). Moves c.end.new.pool (numbers c.end.new.pool h.net.out) c.end-2.new.pool [])
    c.into_inner-pool.ensures c.end-2.ensures)
    ∙ ap (λ (v : StackView). free_pool v.config)
    (lent_shows c.self.inside c.as_mut-parts.result.now c.args.self c.as_mut-parts.ensures.value c.self.view_is)
