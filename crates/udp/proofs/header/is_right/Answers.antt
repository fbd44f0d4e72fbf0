use Rattle.std.proofs.lemmas.Bool.{ne_eqb}
use Rattle.flat_model.specs.Packets.Header.{pseudo_header}
use Rattle.udp.proofs.Summing.{right_sum}
use Rattle.udp.proofs.header.is_right.Goals as goal

pub returns : goal.returns
returns c =
    right_sum c.args.src c.args.dst _ c.cksum_chain.result c.args.header c.requires.header
    (ne_eqb c.args.header.sum 0 c.if-header-eq0.false)
    (c.cksum_chain.ensures (pseudo_header c.args.src c.args.dst c.args.header.len) c.pseudo_sum-sum.ensures)
