use Rattle.std.proofs.Common.{◌++◌, refl, sym, subst, ◌∙◌}
use Rattle.mbuf_chain.specs.Owners.{IsOwned}
use Rattle.ip_reass.specs.Table.{IsReady, held_all}
use Rattle.sock_calls.specs.Outgoing.{SendView, CanSend, sending}
use Rattle.net_stack.specs.Inside.Hosts.{send_view}
use Rattle.net_stack.specs.Inside.Sending.{IsTried, out_chains}
use Rattle.net_stack.proofs.TrySend.{IsOnce, WasLack, IsReclaimed, once, was_lack, gives_back, tried_at_once, tried_again}
use Rattle.net_stack.proofs.host.Host.try_send.Goals as goal
use Rattle.net_stack.proofs.host.Host.try_send.Goals.{After-count_more}

pub returns-then-not-lacks_pool : goal.returns-then-not-lacks_pool
returns-then-not-lacks_pool c =
    tried_at_once (sym c.lacks_pool.ensures ∙ c.if-not-lacks_pool.true)
    (once c.sendto-first.ensures c.requires.ready c.requires.owned)

pub reclaim-datagrams-requires : goal.reclaim-datagrams-requires
reclaim-datagrams-requires c =
    subst (λ (x : SendView). IsReady x.pool c.args.self.now.reass)
    (sym (was_lack c.sendto-first.result (sym c.lacks_pool.ensures ∙ c.if-not-lacks_pool.false)
    c.sendto-first.ensures).same) c.requires.ready

-- the send lacked buffers and changed nothing, and the unfinished datagrams were freed
lack : (c : After-count_more) → WasLack (send_view c.args.self.now) c.sendto-first.result
    (sending c.sendto-first.new.pool c.sendto-first.new.self c.sendto-first.new.net)
lack c = was_lack c.sendto-first.result (sym c.lacks_pool.ensures ∙ c.if-not-lacks_pool.false) c.sendto-first.ensures

back : (c : After-count_more)
    → IsReclaimed (sending c.sendto-first.new.pool c.sendto-first.new.self c.sendto-first.new.net)
    c.args.self.now.reass c.reclaim-datagrams.new.pool c.reclaim-datagrams.new.self c.count_more.new.self
back c =
    let same = sym (lack c).same in
    gives_back c.from.result (subst CanSend same c.requires.send)
    (subst (λ (x : SendView). IsReady x.pool c.args.self.now.reass) same c.requires.ready)
    (subst (λ (x : SendView). IsOwned x.pool (held_all x.pool c.args.self.now.reass.datagrams ++ out_chains x)) same
    c.requires.owned) c.reclaim-datagrams.ensures.none (c.from.ensures ∙ c.reclaim-datagrams.ensures.count)
    c.count_more.ensures c.reclaim-datagrams.ensures.moves

pub resend-requires : goal.resend-requires
resend-requires c = (back (goal.at.resend-requires c).After-count_more).can

pub returns : goal.returns
returns c =
    let at = (goal.at.returns c).After-count_more in
    let u : SendView = sending c.sendto-first.new.pool c.sendto-first.new.self c.sendto-first.new.net in
    let one : IsOnce c.args.fd c.args.to c.args.bytes.now u c.args.self.now.reass c.sendto-first.result u =
    subst (λ (x : SendView). IsOnce c.args.fd c.args.to c.args.bytes.now x c.args.self.now.reass c.sendto-first.result
    u) (sym (lack at).same) (once c.sendto-first.ensures c.requires.ready c.requires.owned) in
    subst (λ (x : SendView). IsTried c.args.fd c.args.to c.args.bytes.now x c.args.self.now.reass c.resend.result
    (sending c.resend.new.pool c.resend.new.self c.resend.new.net) c.reclaim-datagrams.new.self) (lack at).same
    (tried_again (record { reply = (lack at).reply; same = refl }) one (back at)
    (once c.resend.ensures c.reclaim-datagrams.ensures.ready (back at).owned))
