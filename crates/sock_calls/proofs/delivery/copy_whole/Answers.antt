use Rattle.std.proofs.Common.{ap, ◌∙◌, arith}
use Rattle.mbuf_chain.proofs.Laws.Owners.{moves_adds}
use Rattle.chain_ops.specs.Rooms.{room_low}
use Rattle.mbuf_chain.specs.Chain.{chain_of}
use Rattle.ledger.specs.Accounts.{item_of}
use Rattle.flat_model.specs.Amounts.Weight.{Item}
use Rattle.sock_calls.proofs.Copies.{copied_item}
use Rattle.sock_calls.proofs.delivery.copy_whole.Goals as goal

pub unreachable-requires : goal.unreachable-requires
unreachable-requires c =
    omega (
      arith,
      c.in-Err.ensures.err,
      c.requires.free,
      ap (λ (i : Item). i.weight.mbufs) (copied_item
          (room_low (chain_of c.args.pool.now c.args.chain.now).front.header)
          (chain_of c.args.pool.now c.args.chain.now).entries),
    )

pub returns-clause-item : goal.returns-clause-item
returns-clause-item c =
    ap item_of c.in-Ok.ensures.ok.entries ∙ copied_item
    (room_low (chain_of c.args.pool.now c.args.chain.now).front.header)
    (chain_of c.args.pool.now c.args.chain.now).entries

pub returns-clause-moves : goal.returns-clause-moves
returns-clause-moves c = moves_adds c.in-Ok.ensures.ok.adds
