use Rattle.std.proofs.Common.{[], ◌++◌}
use Rattle.bench_packets.proofs.cksum.bsdudp_checksum_of_two.Goals as goal

pub returns : goal.returns
returns c =
    c.finish.ensures (c.args.front.now ++ c.args.back.now)
    (c.add-2.ensures c.args.front.now (c.add.ensures [] c.new-sum.ensures))
