use Rattle.std.proofs.Common.{◌<◌, List, length, ap, arith}
use Rattle.flat_model.specs.Amounts.Layout.{Room}
use Rattle.mbuf_chain.proofs.Laws.Owners.{live_with}
use Rattle.chain_ops.proofs.Laws.Makes.{live_made}
use Rattle.sock_calls.proofs.Storing.{data_stored}
use Rattle.sock_calls.proofs.TwoMbufs.{two_plain, two_stored}
use Rattle.sock_calls.proofs.taking.store_data.Goals as goal
use Rattle.sock_calls.proofs.taking.store_data.Goals.{After-data}

-- the packet takes two mbufs
many : (c : After-data) → 100 < length c.args.packet.now.packet.now
many c = omega (arith, c.if-packet-gt-MHLEN.true, c.args.packet.now.is_checked.within)

pub store_in_two-requires-clause-free : goal.store_in_two-requires-clause-free
store_in_two-requires-clause-free c =
    omega (
      arith,
      c.requires.wire.free.0,
      ap (λ (rooms : List Room). length rooms)
          (two_plain _ (many (goal.at.store_in_two-requires-clause-free c).After-data) c.if-packet.true),
    )

pub returns-then-packet : goal.returns-then-packet
returns-then-packet c =
    two_stored (many (goal.at.returns-then-packet c).After-data) c.if-packet.true c.data.ensures.value
    c.store_in_two.ensures.entries c.store_in_two.ensures.moves

pub trim_front-requires : goal.trim_front-requires
trim_front-requires c = live_with _ _ _ _ _ c.trim_back.ensures (live_made c.in-Ok.ensures.ok.3)

pub returns : goal.returns
returns c =
    data_stored c.args.packet.now.end c.in-Ok.ensures.ok.1 c.in-Ok.ensures.ok.2 c.in-Ok.ensures.ok.3
    (c.stored_layout.ensures.wire c.in-Ok.ensures.ok.0 c.args.packet.now.packet.now c.in-Ok.ensures.ok.2)
    c.in-Ok.ensures.string c.trim_back.ensures c.trim_front.ensures
