use Rattle.std.proofs.Common.{arith, inl, refl}
use Rattle.play_script.proofs.line.packet_ask.Goals as goal

pub returns-clause-writes : goal.returns-clause-writes
returns-clause-writes c =
    inl (record {
      form = c.lines_law.ensures c.args.packet.now (λ k. omega (arith, c.type_inv.packet k)) c.requires;
      served = refl;
    })
