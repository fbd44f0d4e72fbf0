use Rattle.std.proofs.Common.{◌≡◌, ◌∙◌, ℕ, List, ap, sym, drop, length, arith}
use Rattle.std.proofs.lemmas.List.{length-take}
use Rattle.std.proofs.lemmas.Slice.{drop-append-drop}
use Rattle.mbuf_chain.specs.Chain.{chain_of, string}
use Rattle.net_stack.proofs.Tx.{all_copied, first_within, in_front, packet_given}
use Rattle.net_stack.proofs.transmit.take_packet.Goals as goal

-- the packet's bytes, all of them
bytes : (c : goal.After-free_chain) → c.m_copydata.new.to ≡ string (chain_of c.pop.new.pool c.in_ok-packet.packet)
bytes c =
    all_copied c.len-len.result _ (string (chain_of c.pop.new.pool c.in_ok-packet.packet)) c.m_copydata.new.to
    c.m_copydata.ensures
    (omega (
      arith,
      length-take c.len-len.result c.args.buffer.now,
      c.len-len.ensures,
      first_within c.args.pool.now c.pop.new.pool c.args.out.now c.pop.new.self c.in_ok-packet.packet
          (length c.args.buffer.now) c.requires.within c.in_ok-packet.ensures.packets,
    ))
    c.len-len.ensures

pub returns-clause-given : goal.returns-clause-given
returns-clause-given c =
    packet_given c.args.pool.now c.pop.new.pool c.free_chain.new.self c.args.out.now c.pop.new.self
    c.in_ok-packet.packet _ c.requires.queue c.in_ok-packet.ensures.packets c.in_ok-packet.ensures.apart
    c.in_ok-packet.ensures.queue c.in_ok-packet.ensures.moves
    c.free_chain.ensures
    (in_front (string (chain_of c.pop.new.pool c.in_ok-packet.packet)) c.m_copydata.new.to
    (drop c.len-len.result c.args.buffer.now) c.len-len.result c.len-len.ensures (bytes c))

pub returns-clause-rest : goal.returns-clause-rest
returns-clause-rest c = drop-append-drop c.len-len.result c.args.buffer.now c.m_copydata.new.to c.len-len.result
    (omega arith) (ap (λ (xs : List ℕ). length xs) (bytes c) ∙ sym c.len-len.ensures)
