use Rattle.std.proofs.Common.{◌≡◌, ℕ, Option, Some, None, length, sym, subst, ap, arith}
use Rattle.std.specs.Prelude.{Result}
use Rattle.flat_model.specs.Machine.Event.{Receive, Refused}
use Rattle.flat_model.specs.Machine.Replies.{received_reply}
use Rattle.flat_model.specs.Machine.Step.{Step}
use Rattle.flat_model.specs.declared.address.Addr.{Addr}
use Rattle.flat_model.specs.declared.errno.Errno.{Errno}
use Rattle.flat_model.specs.declared.errno.Errno.TheVariants.{BadDescriptor}
use Rattle.pcb_table.specs.Table.{IsDescriptor}
use Rattle.sockbuf.specs.SockBuf.{datagrams}
use Rattle.sock_calls.specs.Sockets.{SocksView, IsSocks, from_three, queues_of, with_sockets}
use Rattle.sock_calls.proofs.Received.{Took, receives, receives_none, took_as, waits_open, not_descriptor, not_open_receives}
use Rattle.sock_calls.proofs.Frames.{each_from_three}
use Rattle.sock_calls.proofs.Places.{at_three, steps_three}
use Rattle.sock_calls.proofs.sockets.Socks.recvfrom.Goals as goal
use Rattle.sock_calls.proofs.sockets.Socks.recvfrom.Goals.{then-fd-lt-FIRST_DESCRIPTOR-via-then-fd-lt-FIRST_DESCRIPTOR, then-fd-lt-FIRST_DESCRIPTOR-via-else-fd-lt-FIRST_DESCRIPTOR+then-fd, in-Some, in-None}

pub take_at-requires-clause-each : goal.take_at-requires-clause-each
take_at-requires-clause-each c = each_from_three c.args.pool.now c.self.inside.parts.queues
    (subst (IsSocks c.args.pool.now) (sym c.self.view_is) c.requires.ready).each

pub returns-then-fd-lt-FIRST_DESCRIPTOR-clause-step : goal.returns-then-fd-lt-FIRST_DESCRIPTOR-clause-step
returns-then-fd-lt-FIRST_DESCRIPTOR-clause-step c = λ rest.
    let p = c.args.pool.now in
    let t = c.self.inside.parts.pcbs in
    let past : IsDescriptor c.args.fd → ⊥ = λ d. elim c.then-fd-lt-FIRST_DESCRIPTOR.branch [
      | then-fd-lt-FIRST_DESCRIPTOR-via-then-fd-lt-FIRST_DESCRIPTOR w ↦ omega (
        arith,
        w.if-fd-lt-FIRST_DESCRIPTOR.true,
        d.least,
      )
      | then-fd-lt-FIRST_DESCRIPTOR-via-else-fd-lt-FIRST_DESCRIPTOR+then-fd w ↦ omega (arith, w.if-fd.true, d.most)
    ] in
    subst (λ (v : SocksView). Step (with_sockets p v rest) (Receive c.args.fd (length c.args.buffer.now))
    (Refused BadDescriptor) (with_sockets p v rest)) c.self.view_is
    (not_open_receives (queues_of p (from_three c.self.inside.parts.queues)) t c.args.fd (length c.args.buffer.now)
    (not_descriptor t c.args.fd c.laws.ensures.apart past) rest)

pub returns-clause-step : goal.returns-clause-step
returns-clause-step c = λ rest.
    let p = c.args.pool.now in
    let q = c.take_at.new.pool in
    let t = c.self.inside.parts.pcbs in
    let f = queues_of p (from_three c.self.inside.parts.queues) in
    let g = queues_of q (from_three c.take_at.new.self) in
    let most = length c.args.buffer.now in
    let old : SocksView = record { pcbs = t; queues = from_three c.self.inside.parts.queues } in
    let new : SocksView = record { pcbs = t; queues = from_three c.take_at.new.self } in
    let closed = (subst (IsSocks c.args.pool.now) (sym c.self.view_is) c.requires.ready).closed c.args.fd in
    let others = (steps_three c.args.fd c.place_of.ensures.value c.take_at.ensures.takes).others in
    let took : (found : Option (Addr × ℕ)) → c.take_at.result ≡ found
    → Took (queues_of c.args.pool.now (from_three c.self.inside.parts.queues))
    (queues_of c.take_at.new.pool (from_three c.take_at.new.self)) c.args.fd (length c.args.buffer.now) found
    c.take_at.new.buffer =
    λ found is. subst (λ (x : Option (Addr × ℕ)). Took
    (queues_of c.args.pool.now (from_three c.self.inside.parts.queues))
    (queues_of c.take_at.new.pool (from_three c.take_at.new.self)) c.args.fd (length c.args.buffer.now) x
    c.take_at.new.buffer) is
    (took_as (length c.args.buffer.now) c.take_at.result c.take_at.new.buffer
    (ap (datagrams p) (at_three c.self.inside.parts.queues c.place_of.result c.args.fd c.place_of.ensures.value))
    (ap (datagrams q) (at_three c.take_at.new.self c.place_of.result c.args.fd c.place_of.ensures.value))
    c.take_at.ensures.taken) in
    subst (λ (v : SocksView). Step (with_sockets p v rest) (Receive c.args.fd (length c.args.buffer.now))
    (received_reply c.match-take_at.result c.take_at.new.buffer) (with_sockets q new rest)) c.self.view_is
    (elim c.match-take_at.branch [
      | in-Some w ↦
          let got = took (Some w.in-Some.taken) w.in-Some.is in
          let b = waits_open f t c.args.fd got.0 (g c.args.fd) closed got.1 in
          subst (λ (r : Result (Addr × ℕ) Errno). Step (with_sockets p old rest)
          (Receive c.args.fd (length c.args.buffer.now)) (received_reply r c.take_at.new.buffer)
          (with_sockets q new rest)) (sym w.result-is)
          (receives f g t c.args.fd most b.block (Some w.in-Some.taken) c.take_at.new.buffer
          b.at b.named got others rest)
      | in-None w ↦
          subst (λ (r : Result (Addr × ℕ) Errno). Step (with_sockets p old rest)
          (Receive c.args.fd (length c.args.buffer.now)) (received_reply r c.take_at.new.buffer)
          (with_sockets q new rest)) (sym w.result-is)
          (receives_none f g t c.args.fd most w.refusal.result w.refusal.ensures (took None w.in-None.is) others rest)
    ])
