use Rattle.std.proofs.Common.{◌∷◌, ◌++◌, [], map, ap, ◌∙◌, arith}
use Rattle.ether_host.specs.Buffers.{held_in}
use Rattle.ether_host.proofs.Places.{last_set}
use Rattle.ether_host.proofs.send.put_packet.Goals as goal

pub returns-in-Some-clause-items : goal.returns-in-Some-clause-items
returns-in-Some-clause-items c =
    last_set c.args.held.now.items c.push_reserved.new.self.items c.blank.result c.fill.new.self _
    c.push_reserved.ensures.items
    (omega (arith, c.push_reserved.ensures.len))
    ∙ ap (λ h. map held_in c.args.held.now.items ++ h ∷ []) c.fill.ensures
