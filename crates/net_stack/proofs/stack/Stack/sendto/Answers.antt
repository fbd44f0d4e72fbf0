use Rattle.std.proofs.Common.{Option, subst}
use Rattle.flat_model.specs.Machine.Event.{Send}
use Rattle.flat_model.specs.declared.address.Addr.{Addr}
use Rattle.flat_model.specs.Machine.Replies.{sent_reply}
use Rattle.net_stack.specs.declared.host.Host.{Host}
use Rattle.net_stack.proofs.CallLemmas.{Called, lent, lent_inside, lent_shows}
use Rattle.net_stack.proofs.TrafficLemmas.{are_bytes, can_send, send_owned, sent_called}
use Rattle.net_stack.proofs.stack.Stack.sendto.Goals as goal

pub send-requires : goal.send-requires
send-requires c =
    let h : Host = c.deref_mut.result.now in
    let is = lent_inside c.self.inside h c.deref_mut.ensures.value c.self.invariant in
    record {
      send = can_send c.self.inside.config h.pool h.socks h.reass h.net is.stack is.mtu is.looped;
      ready = is.stack.reass;
      owned = send_owned c.self.inside.config h.pool h.socks h.reass h.net is.stack;
    }

all : (c : goal.After-self-1) → Called c.args.self.now (Send c.args.fd c.args.to c.args.bytes.now)
    (sent_reply c.send.result) (record (lent c.self.inside c.deref_mut.result.now) { host = c.send.new.self })
all c =
    subst (λ (o : Option Addr). Called c.args.self.now (Send c.args.fd o c.args.bytes.now)
    (sent_reply c.send.result) (record (lent c.self.inside c.deref_mut.result.now) { host = c.send.new.self }))
    c.with_range-to.ensures.same
    (sent_called (lent c.self.inside c.deref_mut.result.now) c.args.self.now c.send.new.self c.args.fd
    c.with_range-to.result c.args.bytes.now
    c.send.result (lent_inside c.self.inside c.deref_mut.result.now c.deref_mut.ensures.value c.self.invariant)
    (lent_shows c.self.inside c.deref_mut.result.now c.args.self.now c.deref_mut.ensures.value c.self.view_is)
    (c.with_range-to.ensures.range, are_bytes c.args.bytes.now c.type_inv.bytes) c.send.ensures)

pub invariant_of-self : goal.invariant_of-self
invariant_of-self c = (all c).inside

pub returns : goal.returns
returns c = (all c).step
