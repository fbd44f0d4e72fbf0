use Rattle.std.proofs.Common.{ap, ◌∙◌}
use Rattle.std.specs.Prelude.{nat_lt}
use Rattle.mbuf_chain.specs.Chain.{chain_of}
use Rattle.ip_out.proofs.Copies.{is_cut}
use Rattle.ip_out.proofs.ways.make_packets.Goals as goal

pub returns-in_ok-link-in-Link-clause-cut : goal.returns-in_ok-link-in-Link-clause-cut
returns-in_ok-link-in-Link-clause-cut c =
    ap (nat_lt 1) c.len-is_cut.ensures
    ∙ is_cut _ c.in_ok-link-in-Link.link (chain_of c.args.pool.now c.args.chain) c.args.head c.args.mtu
    c.in_ok-link-in-Link.ensures.held c.in_ok-link-in-Link.ensures.packets

pub returns-in_ok-looped-in-Loopback-clause-cut : goal.returns-in_ok-looped-in-Loopback-clause-cut
returns-in_ok-looped-in-Loopback-clause-cut c =
    ap (nat_lt 1) c.len-is_cut-in-Loopback.ensures
    ∙ is_cut _ c.in_ok-looped-in-Loopback.looped (chain_of c.args.pool.now c.args.chain) c.args.head c.args.mtu
    c.in_ok-looped-in-Loopback.ensures.held c.in_ok-looped-in-Loopback.ensures.packets
