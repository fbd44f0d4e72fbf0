use Rattle.std.proofs.Common.{◌++◌, sym, subst, ◌∙◌}
use Rattle.mbuf_chain.specs.Owners.{IsOwned}
use Rattle.mbuf_chain.specs.Train.{TrainView, IsHeld, numbers}
use Rattle.ip_out.specs.Packets.{BeginPlain}
use Rattle.sock_calls.specs.declared.net.Net.{Net}
use Rattle.sock_calls.specs.Outgoing.{sending}
use Rattle.net_stack.specs.declared.host.Host.{Host}
use Rattle.net_stack.specs.Inside.Arrivals.{HaveArrived}
use Rattle.net_stack.specs.Inside.Hosts.{arrival_view, send_view}
use Rattle.net_stack.specs.Inside.Sending.{HasSent}
use Rattle.net_stack.proofs.SendLemmas.{net_chains, looped_owned, has_sent}
use Rattle.net_stack.proofs.host.Host.send.Goals as goal

pub arrive_all-requires-clause-held : goal.arrive_all-requires-clause-held
arrive_all-requires-clause-held c =
    subst (IsHeld c.try_send-sent.new.self.pool) (sym c.replace-looped.ensures.value)
    c.try_send-sent.ensures.parts.looped

pub arrive_all-requires-clause-plain : goal.arrive_all-requires-clause-plain
arrive_all-requires-clause-plain c =
    subst (BeginPlain c.try_send-sent.new.self.pool) (sym c.replace-looped.ensures.value)
    c.try_send-sent.ensures.parts.plain

pub arrive_all-requires-clause-fit : goal.arrive_all-requires-clause-fit
arrive_all-requires-clause-fit c =
    let u : Host = c.try_send-sent.new.self in
    record {
      socks = c.try_send-sent.ensures.parts.socks;
      reass = c.try_send-sent.ensures.parts.reass;
      owned = subst (λ (t : TrainView). IsOwned u.pool (numbers u.pool t ++ net_chains (send_view u) u.reass))
          (sym c.replace-looped.ensures.value) (looped_owned c.try_send-sent.ensures.parts c.requires.owned);
    }

pub returns : goal.returns
returns c =
    let v : Host = c.args.self.now in
    let u : Host = c.try_send-sent.new.self in
    let w : Host = c.arrive_all.new.self in
    subst (λ (n : Net). HasSent c.args.fd c.args.to c.args.bytes.now (send_view v) v.reass c.try_send-sent.result
    (sending w.pool w.socks n) w.reass)
    (sym (c.arrive_all.ensures.output
    ∙ (λ i. record (u.net) { looped = (c.replace-looped.ensures.after ∙ c.new.ensures) i; counters = w.net.counters })))
    (has_sent {t = u.reass} {t2 = w.reass} c.requires.owned c.try_send-sent.ensures
    (subst (λ (t : TrainView). HaveArrived (arrival_view u) t (arrival_view w))
    c.replace-looped.ensures.value c.arrive_all.ensures.does)
    c.arrive_all.ensures.reass)
