use Rattle.libbsdudp.specs.Ether.{ReportsTallies}
use Rattle.libbsdudp.proofs.EtherAnswered.{link_questioned}
use Rattle.libbsdudp.proofs.ether.bsdudp_core_ether_tallies.Goals as goal

pub returns-then-is_live : goal.returns-then-is_live
returns-then-is_live c =
    link_questioned c.args.link.now c.value_mut-held.result.now c.tallies.result _
    (λ z. ReportsTallies z c.tallies.new.tallies)
    (record { sfits = c.tallies.type_inv }) c.if-is_live.true c.is_live.ensures c.value_mut-held.ensures.value
    c.tallies.ensures
