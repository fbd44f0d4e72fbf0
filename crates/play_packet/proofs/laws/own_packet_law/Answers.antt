use Rattle.std.proofs.Common.{◌≡◌, ◌+◌, ◌-◌, ◌/◌, ℕ, List, length, take, unwrap_or, arith, refl}
use Rattle.std.proofs.lemmas.List.{take_all}
use Rattle.params.specs.declared.TheConstants.{FRAGMENT_UNIT, UDP_HEADER}
use Rattle.flat_model.specs.Packets.Header.{flag, packet, udp}
use Rattle.play_packet.specs.Builds.{datagram_of_form, packet_of}
use Rattle.play_packet.proofs.laws.own_packet_law.Goals as goal

all-covered : (sent : List ℕ) → take (UDP_HEADER + length sent - UDP_HEADER) sent ≡ sent
all-covered sent = take_all _ sent (omega arith)

pub returns-clause-datagram : goal.returns-clause-datagram
unfolding datagram_of_form udp
returns-clause-datagram c = λ form sent len sum. rw (len, sum, all-covered sent) refl

none-set : (more offset : ℕ) → 0 + 0 + more + offset ≡ more + offset
none-set more offset = omega arith

pub returns-clause-packet : goal.returns-clause-packet
unfolding packet_of packet
returns-clause-packet c = λ form carried own.
    let more : ℕ = flag form.more 8192 in
    let offset : ℕ = unwrap_or form.offset 0 / FRAGMENT_UNIT in
    let flags : flag form.reserved 32768 + flag form.whole 16384 + more + offset ≡ more + offset =
    rw (own.reserved, own.whole) (none-set more offset) in
    rw (flags, own.version, own.ihl, own.tos, own.len, own.ttl, own.sum) refl
