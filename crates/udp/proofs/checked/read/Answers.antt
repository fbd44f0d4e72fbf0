use Rattle.std.proofs.Common.{◌≡◌, ◌<◌, ◌≤◌, ℕ, List, length, sym, ap, ◌∙◌, subst, arith, rules}
use Rattle.std.specs.Prelude.{true, None, Some}
use Rattle.std.proofs.lemmas.Grind.{common_steps}
use Rattle.flat_model.specs.Packets.Header.{u16_at, udp_fault}
use Rattle.flat_model.specs.declared.counters.Why.{Why}
use Rattle.flat_model.specs.declared.counters.Why.TheVariants.{UdpBadLength, UdpHeaderDrops}
use Rattle.ip_out.specs.declared.head.IpHead.{IpHead}
use Rattle.ip_out.specs.Headed.{carried_of}
use Rattle.udp.specs.declared.header.Header.{Header}
use Rattle.udp.specs.Checked.{datagram_fault}
use Rattle.udp.specs.Inside.{has_right_sum, header_in}
use Rattle.udp.proofs.Reading.{carried_length, data_are, fault_of_packet}
use Rattle.udp.proofs.checked.read.Goals as goal
use Rattle.udp.proofs.checked.read.Goals.{After-carried-carried, then-carried-header-via-then-carried-header, then-carried-header-via-else-carried-header+then-header-lt-UDP_HEADER}

-- the packet has the fault of the datagram that it carries
fault : (c : After-carried-carried) (why : Why)
    → udp_fault c.head-head.result.src c.head-head.result.dst c.carried-carried.result.now ≡ Some why
    → datagram_fault c.args.packet.packet.now ≡ Some why
fault c why =
    fault_of_packet c.args.packet.packet.now _ c.head-head.result why c.head-head.ensures
    c.if-head-ne-PROTOCOL_UDP.false c.carried-carried.ensures

pub returns-in_default : goal.returns-in_default
returns-in_default c =
    let few : length c.carried-carried.result.now < 8 = omega (arith, c.in_default.ensures.cases) in
    let e : udp_fault c.head-head.result.src c.head-head.result.dst c.carried-carried.result.now
    ≡ Some UdpHeaderDrops = first_of (search rules, grind (arith, common_steps)) in
    record { packet = tt; err = fault (goal.at.returns-in_default c).After-carried-carried UdpHeaderDrops e }

pub returns-then-carried-header : goal.returns-then-carried-header
returns-then-carried-header c =
    let s : List ℕ = c.carried-carried.result.now in
    let many : 8 ≤ length s = omega (arith, c.in-Some.ensures.cases) in
    let len : c.header_of-header.result.len ≡ u16_at 4 s =
    ap (λ (h : Header). h.len) (c.header_of-header.ensures s c.in-Some.ensures.cases.0) in
    let e : udp_fault c.head-head.result.src c.head-head.result.dst s ≡ Some UdpBadLength =
    elim c.then-carried-header.branch [
      | then-carried-header-via-then-carried-header w ↦ first_of (search rules, grind (arith, common_steps))
      | then-carried-header-via-else-carried-header+then-header-lt-UDP_HEADER w ↦
          first_of (search rules, grind (arith, common_steps))
    ] in
    record { packet = tt; err = fault (goal.at.returns-then-carried-header c).After-carried-carried UdpBadLength e }

pub invariant_of-result : goal.invariant_of-result
invariant_of-result c =
    let packet : List ℕ = c.args.packet.packet.now in
    let is = c.args.packet.is_headed in
    let s : List ℕ = c.carried-carried.result.now in
    let carried : s ≡ carried_of packet = c.carried-carried.ensures in
    let header : Header = c.header_of-header.result in
    let many : 8 ≤ length s = omega (arith, c.in-Some.ensures.cases) in
    let says : header ≡ header_in s = c.header_of-header.ensures s c.in-Some.ensures.cases.0 in
    let within : header.len ≤ length (carried_of packet) =
    subst (λ (xs : List ℕ). header.len ≤ length xs) carried c.if-carried-header.false in
    let len : header.len ≡ u16_at 4 (carried_of packet) = ap (λ (h : Header). h.len) says ∙ ap (u16_at 4) carried in
    let at : header.len ≡ u16_at 4 s = ap (λ (h : Header). h.len) says in
    let right : has_right_sum c.head-head.result.src c.head-head.result.dst s ≡ true =
    sym c.has_right_sum.ensures ∙ c.if-not-has_right_sum.false in
    let none : udp_fault c.head-head.result.src c.head-head.result.dst s ≡ None =
    first_of (search rules, grind (arith, common_steps)) in
    record {
      is_checked = record {
        headed = is;
        protocol = omega (arith, ap (λ (h : IpHead). h.proto) c.head-head.ensures, c.if-head-ne-PROTOCOL_UDP.false);
        source = sym (ap (λ (h : IpHead). h.src) c.head-head.ensures);
        destination = sym (ap (λ (h : IpHead). h.dst) c.head-head.ensures);
        source_port = sym (ap (λ (h : Header). h.source) says ∙ ap (u16_at 0) carried);
        port = sym (ap (λ (h : Header). h.destination) says ∙ ap (u16_at 2) carried);
        faultless = subst (λ (xs : List ℕ). udp_fault c.head-head.result.src c.head-head.result.dst xs ≡ None) carried
            none;
        headers = omega (arith, c.if-header-lt-UDP_HEADER.false);
        within = omega (arith, within, carried_length packet is, is.most);
        bytes = data_are packet header.len is len within;
      };
    }
