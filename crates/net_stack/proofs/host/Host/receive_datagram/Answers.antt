use Rattle.std.proofs.Common.{◌≡◌, ℕ, ◌-◌, List, Option, Some, None, Ok, Err, length, refl, sym, ap, subst, ◌∙◌, arith}
use Rattle.std.proofs.lemmas.Result.{err_from_is_err_and}
use Rattle.flat_model.specs.Packets.Header.{head_of}
use Rattle.flat_model.specs.Machine.Fate.{mark, nobody}
use Rattle.flat_model.specs.declared.counters.Why.{Why}
use Rattle.flat_model.specs.declared.counters.Why.TheVariants.{UdpFullSocket, UdpNoPort}
use Rattle.flat_model.specs.declared.fate.Fate.{Fate}
use Rattle.flat_model.specs.declared.fate.Fate.TheVariants.{Delivered}
use Rattle.net_stack.proofs.Aside.{host_view}
use Rattle.flat_model.specs.declared.fate.Reached.{Reached}
use Rattle.mbuf_chain.specs.Chain.{PoolView}
use Rattle.sock_calls.specs.Sockets.{SocksView}
use Rattle.net_stack.specs.declared.host.Host.{Host}
use Rattle.net_stack.specs.Inside.Arrivals.{HasCome, one_socket}
use Rattle.net_stack.specs.Inside.Hosts.{PacketArrives, arrival_view}
use Rattle.chain_ops.specs.declared.store.Space.{Space}
use Rattle.params.specs.declared.TheConstants.{FIRST_DESCRIPTOR}
use Rattle.pcb_table.specs.Table.{IsDescriptor}
use Rattle.ip_out.specs.declared.head.IpHead.{IpHead}
use Rattle.udp.specs.Checked.{is_to_all}
use Rattle.sock_calls.specs.Whole.{EndsWhole, HasOne, HasSpace, StoresWhole, lost_by}
use Rattle.sock_calls.proofs.Laws.{refused}
use Rattle.net_stack.proofs.InPlace.{beside, came_whole, ended, whole_ends}
use Rattle.net_stack.proofs.host.Host.receive_datagram.Goals as goal
use Rattle.net_stack.proofs.host.Host.receive_datagram.Goals.{in-InMbuf, in-InCluster}

pub take-requires-clause-one : goal.take-requires-clause-one
take-requires-clause-one c =
    let p = c.args.self.now.pool in
    let n : ℕ = length c.args.headed.packet.now in
    let one : HasOne p n c.match-space.is_large =
    elim c.match-space.branch [
      | in-InMbuf w ↦ subst (HasOne p n) (sym w.is_large-is)
          (subst (λ (s : Space). HasSpace p n s) w.in-InMbuf.is c.requires.space)
      | in-InCluster w ↦ subst (HasOne p n) (sym w.is_large-is)
          (subst (λ (s : Space). HasSpace p n s) w.in-InCluster.is c.requires.space)
    ] in
    subst (λ (xs : List ℕ). HasOne p (length xs) c.match-space.is_large)
    (sym c.in_ok-datagram.ensures.packet) one

pub take-requires-clause-lone : goal.take-requires-clause-lone
take-requires-clause-lone c =
    let t = c.args.self.now.socks.pcbs in
    ap (λ (ip : ℕ). is_to_all t ip) (sym c.in_ok-datagram.datagram.is_checked.destination)
    ∙ ap (λ (xs : List ℕ). is_to_all t (head_of xs).destination) c.in_ok-datagram.ensures.packet
    ∙ ap (λ (x : IpHead). is_to_all t x.dst) (sym c.head-head.ensures)
    ∙ sym c.is_broadcast.ensures ∙ c.if-is_broadcast.false

-- ---- the socket that matches it got it: its descriptor, from the first one on
same_socket : (lack : Option Why) (fd : ℕ) → IsDescriptor fd
    → one_socket (fd - FIRST_DESCRIPTOR) lack ≡ mark lack fd nobody
same_socket lack fd is = ap (λ (k : ℕ). mark lack k nobody) (omega (arith, is.least, is.most))

pub returns-in-Stored : goal.returns-in-Stored
returns-in-Stored c =
    let s = c.args.self.now.socks in
    let fd = c.in-Stored.fd in
    let stored : StoresWhole c.args.self.now.pool s c.args.headed.packet.now fd c.take.new.pool c.take.new.self =
    subst (λ (xs : List ℕ). StoresWhole c.args.self.now.pool s xs fd c.take.new.pool c.take.new.self)
    c.in_ok-datagram.ensures.packet c.in-Stored.ensures in
    record {
      does = subst (λ (x : Reached). HasCome (arrival_view c.args.self.now) c.args.headed.packet.now (Delivered x)
          (host_view c.take.new.pool c.take.new.self c.args.self.now.reass c.count.new.self))
          (sym (same_socket None fd stored.descriptor))
          (came_whole c.requires.can.fit.owned c.requires.can.fit.reass stored c.args.self.now.net.counters
          c.count.new.self c.count.ensures c.requires.can.wire.free c.args.headed.is_headed.faultless
          (λ rest. c.requires.whole.ours) c.requires.whole.whole);
      reass = (beside c.requires.can.fit.owned c.requires.can.fit.reass stored).table;
      output = refl;
    }

-- ---- its queue is full
pub returns-in-Full : goal.returns-in-Full
returns-in-Full c =
    let u = c.args.self.now in
    let fd = c.in-Full.fd in
    let packet : List ℕ = c.args.headed.packet.now in
    let e = c.in-Full.ensures in
    let fit = c.requires.can.fit in
    let after : PoolView → SocksView → Host = λ p s. record u {
      pool = p;
      socks = s;
      net = record (u.net) { counters = c.count_dropped.new.counters };
    } in
    let fate : Fate = Delivered (one_socket (fd - FIRST_DESCRIPTOR) (Some UdpFullSocket)) in
    subst (λ (p : PoolView). PacketArrives u packet fate (after p c.take.new.self)) (sym e.0)
    (subst (λ (s : SocksView). PacketArrives u packet fate (after u.pool s)) (sym e.1) (record {
      does = subst (λ (x : Reached). HasCome (arrival_view u) packet (Delivered x)
          (host_view u.pool u.socks u.reass c.count_dropped.new.counters))
          (sym (same_socket (Some UdpFullSocket) fd e.2))
          (ended {a = u.net.counters} (Delivered (lost_by fd)) packet UdpFullSocket fit.socks fit.reass fit.owned
          c.requires.can.wire.free
          (whole_ends u.pool u.socks u.reass u.net.counters packet (Ok (lost_by fd)) UdpFullSocket
          c.args.headed.is_headed.faultless (λ rest. c.requires.whole.ours) c.requires.whole.whole
          (subst (λ (xs : List ℕ). EndsWhole u.pool u.socks xs (Ok (lost_by fd)) UdpFullSocket)
          c.in_ok-datagram.ensures.packet e.3)) refl c.count_dropped.ensures);
      reass = fit.reass;
      output = refl;
    }))

-- ---- no socket matches it
pub returns-in-NoPort : goal.returns-in-NoPort
returns-in-NoPort c =
    let u = c.args.self.now in
    let e = c.in-NoPort.ensures in (
      (λ i. record u { pool = e.0 i; socks = e.1 i }),
      whole_ends u.pool u.socks u.reass u.net.counters c.args.headed.packet.now (Err UdpNoPort) UdpNoPort
          c.args.headed.is_headed.faultless (λ rest. c.requires.whole.ours) c.requires.whole.whole
          (subst (λ (xs : List ℕ). EndsWhole u.pool u.socks xs (Err UdpNoPort) UdpNoPort)
          c.in_ok-datagram.ensures.packet e.2),
    )

pub returns-in_err-datagram : goal.returns-in_err-datagram
returns-in_err-datagram c =
    let p = err_from_is_err_and c.from_residual.result c.from_residual.ensures.1 in
    let u = c.args.self.now in
    let packet : List ℕ = c.args.headed.packet.now in
    let why = c.in_err-datagram.field-0.0 in
    rw (p.1, p.2) (
      refl,
      whole_ends u.pool u.socks u.reass u.net.counters packet (Err why) why c.args.headed.is_headed.faultless
          (λ rest. c.requires.whole.ours) c.requires.whole.whole
          (refused u.pool u.socks packet why c.in_err-datagram.ensures.err),
    )
