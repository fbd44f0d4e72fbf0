use Rattle.std.proofs.Common.{refl, sym, ◌∙◌}
use Rattle.ether_host.specs.Inside.{link_seen}
use Rattle.libbsdudp.specs.Ether.{ArrivesFate}
use Rattle.libbsdudp.proofs.EtherAnswered.{host_called, lacks_link, lacks_stack}
use Rattle.libbsdudp.proofs.ether.bsdudp_core_ether_receive_fate.Goals as goal

pub returns-then-not-is_live : goal.returns-then-not-is_live
returns-then-not-is_live c =
    lacks_stack c.args.handle.now c.args.link.now _ _ (sym c.is_live.ensures ∙ c.if-not-is_live.true) refl

pub returns-then-not-is_live-2 : goal.returns-then-not-is_live-2
returns-then-not-is_live-2 c =
    lacks_link c.args.handle.now c.args.link.now _ _ (sym c.is_live.ensures ∙ c.if-not-is_live.false)
    (sym c.is_live-2.ensures ∙ c.if-not-is_live-2.true) refl

pub returns : goal.returns
returns c =
    host_called c.args.handle.now (record { stack = c.receive_fate.new.stack }) c.args.link.now
    (record { layer = c.receive_fate.new.layer }) c.receive_fate.result _
    (λ z. ArrivesFate c.args.frame.now z c.args.fate.now c.receive_fate.new.fate)
    c.value_mut.result.now.stack (link_seen c.value_mut-2.result.now.layer) (record { sfits = c.receive_fate.type_inv })
    c.if-not-is_live.false c.is_live.ensures c.if-not-is_live-2.false c.is_live-2.ensures
    c.value_mut.ensures.value c.value_mut-2.ensures.value c.receive_fate.ensures
