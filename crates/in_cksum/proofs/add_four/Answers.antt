use Rattle.in_cksum.proofs.Rests.{four_taken}
use Rattle.in_cksum.proofs.add_four.Goals as goal

pub returns-in-len4-up : goal.returns-in-len4-up
returns-in-len4-up c =
    four_taken c.args.sum c.from_le_bytes-word.result c.args.bytes.now c.in-len4-up.len_at_least c.type_inv.bytes
    c.from_le_bytes-word.ensures
