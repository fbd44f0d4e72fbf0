use Rattle.std.proofs.Common.{ap, ◌∙◌, ◌++◌}
use Rattle.flat_plain.specs.Heads.{plain_head}
use Rattle.flat_plain.proofs.Heading.{packet_is}
use Rattle.flat_plain.proofs.headers.packet.Goals as goal

pub returns : goal.returns
returns c =
    c.in_ok-extend_from_slice.ensures.items
    ∙ ap (λ xs. xs ++ c.args.carried.now) c.in_ok-bytes.ensures.items
    ∙ packet_is (plain_head c.args.head) c.args.carried.now c.header-blank.result c.header-full.result c.checksum.result
    c.header-blank.ensures c.checksum.ensures c.header-full.ensures
