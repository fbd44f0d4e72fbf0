use Rattle.libbsdudp.specs.Ether.{ReportsNeighbour}
use Rattle.libbsdudp.proofs.EtherAnswered.{link_questioned}
use Rattle.libbsdudp.proofs.ether.bsdudp_core_ether_neighbour.Goals as goal

pub returns-then-is_live : goal.returns-then-is_live
returns-then-is_live c =
    link_questioned c.args.link.now c.value_mut-held.result.now c.neighbour.result _
    (λ z. ReportsNeighbour c.args.i z c.args.neighbour.now c.neighbour.new.neighbour)
    (record { sfits = c.neighbour.type_inv }) c.if-is_live.true c.is_live.ensures c.value_mut-held.ensures.value
    c.neighbour.ensures
