use Rattle.in_cksum.proofs.Rests.{eight_taken}
use Rattle.in_cksum.proofs.add_eight.Goals as goal

pub returns-in-len8-up : goal.returns-in-len8-up
returns-in-len8-up c =
    eight_taken c.args.sum c.from_le_bytes-words.result c.args.bytes.now c.in-len8-up.len_at_least c.type_inv.bytes
    c.from_le_bytes-words.ensures
