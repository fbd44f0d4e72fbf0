use Rattle.std.proofs.Common.{refl}
use Rattle.play_packet.specs.Builds.{datagram_of_form}
use Rattle.play_packet.proofs.build.put_udp.Goals as goal

pub returns-clause-is : goal.returns-clause-is
unfolding datagram_of_form
returns-clause-is c =
    rw (
      c.append-13.ensures.items,
      c.append-12.ensures.items,
      c.append-11.ensures.items,
      c.append-10.ensures.items,
      c.append-9.ensures.items,
      c.clear-2.ensures,
      c.two_bytes.ensures,
      c.written.ensures,
      c.not_zero-right.ensures,
      c.checksum.ensures,
      c.as_slice.ensures,
      c.append-8.ensures.items,
      c.append-7.ensures.items,
      c.append-6.ensures.items,
      c.append-5.ensures.items,
      c.append-4.ensures.items,
      c.append-3.ensures.items,
      c.append-2.ensures.items,
      c.append.ensures.items,
      c.clear.ensures,
      c.address_bytes.ensures,
      c.two_bytes-source_port.ensures,
      c.two_bytes-destination_port.ensures,
      c.two_bytes-len.ensures,
      c.covered_by-summed.ensures.is,
      c.udp_len_of-n.ensures,
    ) refl
