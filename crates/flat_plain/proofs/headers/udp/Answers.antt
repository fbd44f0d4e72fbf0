use Rattle.std.proofs.Common.{ap, ◌∙◌}
use Rattle.flat_model.specs.Packets.Header.{not_zero}
use Rattle.flat_model.specs.Packets.Checksum.{checksum}
use Rattle.flat_plain.proofs.Heading.{udp_is}
use Rattle.flat_plain.proofs.headers.udp.Goals as goal

pub returns : goal.returns
returns c =
    c.in_ok-bytes.ensures
    ∙ udp_is c.args.source.ip c.args.destination.ip c.args.source.port c.args.destination.port c.args.sent.now
    c.pseudo_header-pseudo.result c.udp_header-blank.result c.in_ok-covered.covered.items c.udp_header-front.result
    c.not_zero.result
    c.pseudo_header-pseudo.ensures c.udp_header-blank.ensures c.in_ok-covered.ensures
    (c.not_zero.ensures ∙ ap not_zero (c.checksum-sum.ensures ∙ ap checksum c.deref.ensures.value))
    c.udp_header-front.ensures
