use Rattle.std.proofs.Common.{sym, subst, ap, ◌∙◌}
use Rattle.flat_model.specs.Machine.State.{State}
use Rattle.flat_model.specs.Machine.Event.{Close, Done, Refused}
use Rattle.flat_model.specs.Machine.Step.{Step}
use Rattle.pcb_table.specs.Table.{machine}
use Rattle.sock_calls.specs.Sockets.{SocksView, IsSocks, from_three, queues_of, with_sockets}
use Rattle.sock_calls.proofs.Keeping.{keeps_closed, closed_machine}
use Rattle.sockbuf.specs.SockBuf.{datagrams}
use Rattle.sock_calls.proofs.Frames.{each_from_three}
use Rattle.sock_calls.proofs.Copies.{descriptor_of}
use Rattle.sock_calls.proofs.Places.{at_three, steps_three}
use Rattle.sock_calls.proofs.sockets.Socks.close.Goals as goal

pub returns-in-Err-clause-step : goal.returns-in-Err-clause-step
returns-in-Err-clause-step c = λ rest.
    let p = c.args.pool.now in
    let new : SocksView = record { pcbs = c.close.new.self; queues = from_three c.self.inside.parts.queues } in
    subst (λ (v : SocksView). Step (with_sockets p v rest) (Close c.args.fd) (Refused c.in-Err.errno)
    (with_sockets p new rest)) c.self.view_is
    (c.in-Err.ensures.step rest (queues_of p (from_three c.self.inside.parts.queues)))

pub returns-clause-step : goal.returns-clause-step
returns-clause-step c = λ rest.
    let p = c.args.pool.now in
    let q = c.flush_at.new.pool in
    let t = c.self.inside.parts.pcbs in
    let f = queues_of p (from_three c.self.inside.parts.queues) in
    let g = queues_of q (from_three c.flush_at.new.self) in
    let new : SocksView = record { pcbs = c.close.new.self; queues = from_three c.flush_at.new.self } in
    subst (λ (v : SocksView). Step (with_sockets p v rest) (Close c.args.fd) Done (with_sockets q new rest))
    c.self.view_is
    (subst (λ (s : State). Step (machine rest f t) (Close c.args.fd) Done s)
    (closed_machine f g c.close.new.self t c.args.fd rest c.in_default.ensures.closed
    (steps_three c.args.fd c.place_of.ensures.value c.flush_at.ensures.takes).others)
    (c.in_default.ensures.step rest f))

pub returns-clause-ready : goal.returns-clause-ready
returns-clause-ready c =
    keeps_closed c.args.pool.now c.flush_at.new.pool
    (record { pcbs = c.self.inside.parts.pcbs; queues = from_three c.self.inside.parts.queues }) c.close.new.self
    (from_three c.flush_at.new.self) c.args.fd
    (subst (IsSocks c.args.pool.now) (sym c.self.view_is) c.requires.ready) c.laws.ensures.apart
    c.in_default.ensures.closed (steps_three c.args.fd c.place_of.ensures.value c.flush_at.ensures.takes)
    (ap (datagrams c.flush_at.new.pool) (at_three c.flush_at.new.self c.place_of.result c.args.fd
    c.place_of.ensures.value) ∙ c.flush_at.ensures.empty)

pub place_of-requires : goal.place_of-requires
place_of-requires c =
    descriptor_of c.self.inside.parts.pcbs c.args.fd
    (subst (IsSocks c.args.pool.now) (sym c.self.view_is) c.requires.ready).apart c.in_default.ensures.closed.before

pub flush_at-requires-clause-each : goal.flush_at-requires-clause-each
flush_at-requires-clause-each c = each_from_three c.args.pool.now c.self.inside.parts.queues
    (subst (IsSocks c.args.pool.now) (sym c.self.view_is) c.requires.ready).each
