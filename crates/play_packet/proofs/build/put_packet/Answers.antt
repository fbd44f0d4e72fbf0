use Rattle.std.proofs.Common.{refl}
use Rattle.play_packet.specs.Builds.{packet_of}
use Rattle.play_packet.proofs.build.put_packet.Goals as goal

pub returns : goal.returns
unfolding packet_of
returns c =
    rw (
      c.append-7.ensures.items,
      c.append-6.ensures.items,
      c.append-5.ensures.items,
      c.append-4.ensures.items,
      c.clear-2.ensures,
      c.two_bytes.ensures,
      c.written-sum.ensures,
      c.checksum-right.ensures,
      c.as_slice.ensures,
      c.append-3.ensures.items,
      c.append-2.ensures.items,
      c.append.ensures.items,
      c.clear.ensures,
      c.front_bytes-front.ensures,
      c.address_bytes-addresses.ensures,
    ) refl
