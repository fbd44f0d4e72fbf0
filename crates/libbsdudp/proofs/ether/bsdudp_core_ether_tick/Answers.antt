use Rattle.std.proofs.Common.{sym, ◌∙◌}
use Rattle.ether_host.specs.Inside.{link_seen}
use Rattle.libbsdudp.specs.Ether.{HasHostTicked}
use Rattle.libbsdudp.proofs.EtherAnswered.{host_called, lacks_link, lacks_stack}
use Rattle.libbsdudp.proofs.ether.bsdudp_core_ether_tick.Goals as goal

pub returns-then-not-is_live : goal.returns-then-not-is_live
returns-then-not-is_live c =
    lacks_stack c.args.handle.now c.args.link.now _ _ (sym c.is_live.ensures ∙ c.if-not-is_live.true) _

pub returns-then-not-is_live-2 : goal.returns-then-not-is_live-2
returns-then-not-is_live-2 c =
    lacks_link c.args.handle.now c.args.link.now _ _ (sym c.is_live.ensures ∙ c.if-not-is_live.false)
    (sym c.is_live-2.ensures ∙ c.if-not-is_live-2.true) _

pub returns : goal.returns
returns c =
    host_called c.args.handle.now (record { stack = c.tick.new.stack }) c.args.link.now
    (record { layer = c.tick.new.layer }) c.tick.result _ (λ z. HasHostTicked z)
    c.value_mut.result.now.stack (link_seen c.value_mut-2.result.now.layer) (record { sfits = c.tick.type_inv })
    c.if-not-is_live.false c.is_live.ensures c.if-not-is_live-2.false c.is_live-2.ensures
    c.value_mut.ensures.value c.value_mut-2.ensures.value c.tick.ensures
