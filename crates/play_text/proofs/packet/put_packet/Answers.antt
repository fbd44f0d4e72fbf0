use Rattle.std.proofs.Common.{◌++◌, sym, ap, ◌∙◌}
use Rattle.flat_model.specs.Packets.Header.{Head}
use Rattle.play_text.specs.Packets.{headed_text}
use Rattle.play_text.proofs.PacketLemmas.{headed_packet}
use Rattle.play_text.proofs.packet.put_packet.Goals as goal

pub returns-then-has_header-clause-items : goal.returns-then-has_header-clause-items
returns-then-has_header-clause-items g c =
    headed_packet c.args.packet.now _ _ (sym c.has_header.ensures ∙ c.if-has_header.true)
    (c.put_headed.ensures.items ∙ ap (λ (h : Head). c.args.text.now ++ headed_text h c.args.packet.now)
    c.head_of.ensures)
