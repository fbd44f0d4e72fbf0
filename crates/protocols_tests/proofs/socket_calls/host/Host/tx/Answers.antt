use Rattle.std.proofs.Common.{[], ◌∷◌}
use Rattle.mbuf_chain.proofs.Laws.Owners.{moves_without}
use Rattle.protocols_tests.proofs.Hosted.{Held, in_hand, of_queue}
use Rattle.protocols_tests.proofs.socket_calls.host.Host.tx.Goals as goal

pub invariant_of-self-2 : goal.invariant_of-self-2
invariant_of-self-2 g c =
    let h : Held c.free_chain.new.self c.self.inside.socks c.pop.new.self [] =
    in_hand (of_queue [] (c.in_ok-packet.packet ∷ [])
    (record { socks = c.self.invariant.0; out = c.self.invariant.1; owned = c.self.invariant.2 })
    c.in_ok-packet.ensures.queue c.in_ok-packet.ensures.moves)
    (moves_without c.pop.new.pool c.free_chain.new.self c.in_ok-packet.packet c.in_ok-packet.ensures.live
    c.free_chain.ensures) in
    (h.socks, h.out, h.owned, c.self.invariant.3)
