use Rattle.flat_model.specs.Scripts.Texts.{hex_text}
use Rattle.play_wire.specs.Inside.{link_asks}
use Rattle.play_wire.proofs.LinkLemmas.{ask_spelled, packet_spelled}
use Rattle.play_wire.proofs.link_ask.ask_of.Goals as goal

pub returns-then-line-clause-is : goal.returns-then-line-clause-is
returns-then-line-clause-is c =
    packet_spelled c.args.line.now.named (hex_text c.args.line.now.packet) c.args.line.now.words c.if-line.true

pub returns-else-line-clause-is : goal.returns-else-line-clause-is
returns-else-line-clause-is c =
    ask_spelled c.args.line.now.named (hex_text c.args.line.now.packet) c.args.line.now.words c.bytes_of.result.now
    (link_asks c.ask_in.result) c.if-line.false c.bytes_of.ensures.is c.ask_in.ensures.is
