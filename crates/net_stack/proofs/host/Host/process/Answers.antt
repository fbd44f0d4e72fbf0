use Rattle.std.proofs.Common.{◌≡◌, ℕ, Bool, false, List, None, length, refl, sym, ap, subst, ◌∙◌}
use Rattle.std.proofs.lemmas.Result.{err_from_is_err_and}
use Rattle.ip_out.specs.declared.head.IpHead.{IpHead}
use Rattle.ip_reass.specs.Arrivals.{flat_head}
use Rattle.flat_model.specs.Amounts.Weight.{nothing}
use Rattle.flat_model.specs.Machine.Arrival.{By_wire, is_fragment}
use Rattle.flat_model.specs.Packets.Header.{head_fault, head_of}
use Rattle.flat_model.specs.declared.counters.Why.TheVariants.{CantForward}
use Rattle.flat_model.specs.declared.fate.Fate.TheVariants.{Dropped}
use Rattle.sock_calls.specs.Delivery.{net_state}
use Rattle.net_stack.specs.Inside.Arrivals.{is_ours_or_all}
use Rattle.net_stack.specs.Inside.Hosts.{arrival_view}
use Rattle.net_stack.proofs.ArriveLemmas.{forwarded, refused}
use Rattle.net_stack.proofs.InPlace.{ended}
use Rattle.net_stack.proofs.host.Host.process.Goals as goal

pub receive_datagram-requires-clause-whole : goal.receive_datagram-requires-clause-whole
receive_datagram-requires-clause-whole c =
    let t = c.args.self.now.socks.pcbs in
    record {
      ours = ap (λ (x : IpHead). is_ours_or_all t.addr t.bcast x.dst) (sym c.head-head.ensures)
          ∙ sym c.is_for_us.ensures ∙ c.if-not-is_for_us.false;
      whole = ap (λ (x : IpHead). is_fragment (flat_head x)) (sym c.head-head.ensures)
          ∙ sym c.is_fragment.ensures ∙ c.if-not-is_fragment.true;
    }

pub receive_fragment-requires-clause-fragment : goal.receive_fragment-requires-clause-fragment
receive_fragment-requires-clause-fragment c =
    ap (λ (x : IpHead). is_fragment (flat_head x)) (sym c.head-head.ensures)
    ∙ sym c.is_fragment.ensures ∙ c.if-not-is_fragment.false

pub receive_fragment-requires-clause-ours : goal.receive_fragment-requires-clause-ours
receive_fragment-requires-clause-ours c =
    let t = c.args.self.now.socks.pcbs in
    ap (λ (x : IpHead). is_ours_or_all t.addr t.bcast x.dst) (sym c.head-head.ensures)
    ∙ sym c.is_for_us.ensures ∙ c.if-not-is_for_us.false

pub returns-then-not-is_for_us : goal.returns-then-not-is_for_us
returns-then-not-is_for_us c =
    let u = c.args.self.now in
    let packet = c.args.packet.now in
    let fit = c.requires.can.fit in
    let is_ours : List ℕ → Bool = λ xs. is_ours_or_all u.socks.pcbs.addr u.socks.pcbs.bcast (head_of xs).destination in
    let other : is_ours c.in_ok-headed.headed.packet.now ≡ false =
    ap (λ (x : IpHead). is_ours_or_all u.socks.pcbs.addr u.socks.pcbs.bcast x.dst) (sym c.head-head.ensures)
    ∙ sym c.is_for_us.ensures ∙ c.if-not-is_for_us.true in
    record {
      does = ended {a = u.net.counters} (Dropped CantForward) packet CantForward fit.socks fit.reass fit.owned
          c.requires.can.wire.free
          (λ rest w weighs. forwarded packet (By_wire (length packet)) nothing w (net_state (arrival_view u) rest)
          (subst (λ (xs : List ℕ). head_fault xs ≡ None) c.in_ok-headed.ensures.ok
          c.in_ok-headed.headed.is_headed.faultless)
          (subst (λ (xs : List ℕ). is_ours xs ≡ false) c.in_ok-headed.ensures.ok other)) refl c.count_dropped.ensures;
      reass = fit.reass;
      output = refl;
    }

pub returns-in_err-headed : goal.returns-in_err-headed
returns-in_err-headed c =
    let p = err_from_is_err_and c.from_residual.result c.from_residual.ensures.1 in
    let packet = c.args.packet.now in
    rw (p.1, p.2) (
      refl,
      λ rest w weighs. refused packet (By_wire (length packet)) nothing w
          (net_state (arrival_view c.args.self.now) rest)
          c.in_err-headed.field-0.0 c.in_err-headed.ensures.err,
    )
