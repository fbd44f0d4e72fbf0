use Rattle.std.proofs.Common.{arith, length}
use Rattle.sock_calls.proofs.OnePacket.{large_free, small_free}
use Rattle.sock_calls.proofs.one_packet.datagram_of_one.Goals as goal

pub in_mbuf-requires-clause-free : goal.in_mbuf-requires-clause-free
in_mbuf-requires-clause-free c = small_free c.args.pool.now (length c.args.bytes.now) (omega arith) c.requires.free

pub in_cluster-requires-clause-free : goal.in_cluster-requires-clause-free
in_cluster-requires-clause-free c = (large_free c.args.pool.now (length c.args.bytes.now)
    (c.requires.many (omega arith)) c.requires.most c.requires.free).0

pub in_cluster-requires-clause-cluster : goal.in_cluster-requires-clause-cluster
in_cluster-requires-clause-cluster c = (large_free c.args.pool.now (length c.args.bytes.now)
    (c.requires.many (omega arith)) c.requires.most c.requires.free).1
