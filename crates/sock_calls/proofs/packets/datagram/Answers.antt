use Rattle.std.proofs.Common.{arith}
use Rattle.sock_calls.specs.Inside.Putting.{sent_as}
use Rattle.sock_calls.proofs.OnePacket.{built_at}
use Rattle.sock_calls.proofs.packets.datagram.Goals as goal

pub returns : goal.returns
returns c = built_at (sent_as c.args.heading c.args.bytes.now) c.write_udp.new.headers c.with_headers.ensures.stored
    c.with_headers.ensures.string (omega arith) c.write_udp.ensures
