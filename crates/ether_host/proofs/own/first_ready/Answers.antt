use Rattle.std.proofs.Common.{sym, ap, ◌∙◌, arith}
use Rattle.flat_ether.specs.Links.{mac_of}
use Rattle.ether_host.specs.declared.buffer.PacketBuffer.{PacketBuffer}
use Rattle.ether_host.proofs.Readies.{sought_first, sought_here, sought_next, sought_none}
use Rattle.ether_host.proofs.own.first_ready.Goals as goal

pub loop-at-init : goal.loop-at-init
loop-at-init c = sought_first c.args.neighbours.now c.args.held.now

pub loop-at-preserved : goal.loop-at-preserved
loop-at-preserved c =
    sought_next c.args.neighbours.now c.args.held.now c.loop-at.at c.index-held-at.result c.loop-at-test.true
    c.index-held-at.is
    (sym (c.mac_of.ensures ∙ ap (λ (p : PacketBuffer). mac_of p.hop c.args.neighbours.now) (sym c.index-held-at.is))
    ∙ c.in_default.is) c.loop-at.invariant

pub returns-in-Some-clause-is : goal.returns-in-Some-clause-is
returns-in-Some-clause-is c =
    sought_here c.args.neighbours.now c.args.held.now c.loop-at.at c.index-held-at.result c.in-Some.mac
    c.loop-at-test.true c.index-held-at.is
    (sym (c.mac_of.ensures ∙ ap (λ (p : PacketBuffer). mac_of p.hop c.args.neighbours.now) (sym c.index-held-at.is))
    ∙ c.in-Some.is) c.loop-at.invariant

pub returns-clause-is : goal.returns-clause-is
returns-clause-is c = sought_none c.args.neighbours.now c.args.held.now c.loop-at.at (omega arith) c.loop-at.invariant
