-- A packet that was read in place.
use Rattle.std.proofs.Common.{◌≡◌, ℕ, ◌+◌, ◌≤◌, Bool, cond, List, length, take, drop, Option, Some, sym, ap, ◌∙◌, arith}
use Rattle.std.proofs.lemmas.Bool.{eq-eqb}
use Rattle.std.proofs.lemmas.List.{drop-drop, drop-take, length-drop, length-take, take-take}
use Rattle.flat_model.specs.Packets.Header.{head_of, total_of, u16_at, udp_bytes, udp_fault}
use Rattle.flat_model.specs.declared.counters.Why.{Why}
use Rattle.flat_model.specs.declared.counters.Why.TheVariants.{NoProtocol}
use Rattle.ip_out.specs.Headed.{IsFaultless, carried_of}
use Rattle.ip_out.specs.Headings.{head_in}
use Rattle.ip_out.specs.declared.head.IpHead.{IpHead}
use Rattle.udp.specs.Checked.{datagram_fault}

-- what is carried is that much shorter
pub carried_length : (packet : List ℕ) → IsFaultless packet → length (carried_of packet) + 20 ≡ total_of packet
carried_length packet is =
    omega (
      arith,
      is.least,
      is.most,
      length-drop 20 (take (total_of packet) packet),
      length-take (total_of packet) packet,
    )

-- the data of a datagram, in what is carried and in the packet
pub data_are : (packet : List ℕ) (n : ℕ) → IsFaultless packet → n ≡ u16_at 4 (carried_of packet)
    → n ≤ length (carried_of packet) → udp_bytes (carried_of packet) ≡ drop 28 (take (20 + n) packet)
data_are packet n is said within =
    ap (λ (m : ℕ). drop 8 (take m (carried_of packet))) (sym said)
    ∙ ap (drop 8) (sym (drop-take 20 n (take (total_of packet) packet)))
    ∙ ap (λ (xs : List ℕ). drop 8 (drop 20 xs))
    (take-take (20 + n) (total_of packet) packet (omega (arith, within, carried_length packet is)))
    ∙ drop-drop 8 20 (take (20 + n) packet)

-- a fault of the datagram that a packet carries is one of the packet
pub fault_of_packet : (packet s : List ℕ) (h : IpHead) (why : Why) → h ≡ head_in packet → h.proto ≡ 17
    → s ≡ carried_of packet → udp_fault h.src h.dst s ≡ Some why → datagram_fault packet ≡ Some why
fault_of_packet packet s h why says proto carried fault =
    let udp : Option Why = udp_fault (head_of packet).source (head_of packet).destination (carried_of packet) in
    ap (λ (b : Bool). cond b udp (Some NoProtocol))
    (eq-eqb (head_of packet).protocol 17 (sym (ap (λ (x : IpHead). x.proto) says) ∙ proto))
    ∙ (λ i. udp_fault (sym says i).src (sym says i).dst (sym carried i)) ∙ fault
