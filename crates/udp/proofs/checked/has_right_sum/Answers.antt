use Rattle.std.proofs.Common.{◌≡◌, ℕ, List, ◌++◌, take}
use Rattle.std.proofs.lemmas.Bool.{ne_eqb}
use Rattle.flat_model.specs.Packets.Checksum.{checksum}
use Rattle.flat_model.specs.Packets.Header.{pseudo_header}
use Rattle.udp.proofs.Summing.{right_sum}
use Rattle.udp.proofs.checked.has_right_sum.Goals as goal

pub returns : goal.returns
returns c =
    let front : List ℕ = pseudo_header c.args.from c.args.to c.args.header.len in
    let s : List ℕ = c.args.carried.now in
    let is : c.finish.result ≡ checksum (front ++ take c.args.header.len s) =
    c.finish.ensures (front ++ take c.args.header.len s) (c.add.ensures front c.pseudo_sum-sum.ensures) in
    right_sum c.args.from c.args.to s c.finish.result c.args.header c.requires.said
    (ne_eqb c.args.header.sum 0 c.if-header-eq0.false) is
