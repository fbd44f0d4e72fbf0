use Rattle.std.proofs.Common.{[]}
use Rattle.bench_packets.proofs.cksum.bsdudp_checksum.Goals as goal

pub returns : goal.returns
returns c = c.finish.ensures c.args.bytes.now (c.add.ensures [] c.new-sum.ensures)
