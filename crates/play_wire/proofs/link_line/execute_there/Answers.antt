use Rattle.std.proofs.Common.{subst, sym}
use Rattle.segment.specs.Inside.{view}
use Rattle.play_wire.specs.Acts.{Refused}
use Rattle.play_wire.specs.Inside.{IsAtLink, link_asked}
use Rattle.play_wire.specs.declared.fault.Fault.TheVariants as fault
use Rattle.play_wire.specs.declared.link_ask.LinkAsk.{LinkAsk}
use Rattle.play_wire.proofs.LinkLemmas.{packets_refused}
use Rattle.play_wire.proofs.link_line.execute_there.Goals as goal

pub returns-in-Packets : goal.returns-in-Packets
returns-in-Packets c =
    subst (λ (ask : LinkAsk). IsAtLink c.args.place (link_asked ask) (view c.args.segment.now)
    (Refused fault.OnEthernet) (view c.args.segment.now)) (sym c.in-Packets.is)
    (packets_refused c.args.place (view c.args.segment.now) c.requires.link)
