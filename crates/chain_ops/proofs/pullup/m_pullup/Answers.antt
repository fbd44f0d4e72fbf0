use Rattle.std.proofs.Common.{◌-◌, ap, ◌∙◌, length, drop, None}
use Rattle.mbuf_chain.specs.Chain.{ChainView, flat_bytes, chain_of, entry_of}
use Rattle.mbuf_chain.specs.Steps.{empty_entry}
use Rattle.chain_ops.specs.Rooms.{room_low}
use Rattle.chain_ops.proofs.Laws.Strings.{moved_bytes, first_rest}
use Rattle.chain_ops.proofs.pullup.m_pullup.Goals as goal

pub returns-then-has_room-clause-string : goal.returns-then-has_room-clause-string
returns-then-has_room-clause-string c =
    let v : ChainView = chain_of c.args.pool.now c.args.chain.now in
    ap flat_bytes c.pull_in_place.ensures.entries
    ∙ moved_bytes (c.args.n - length (entry_of v 0).bytes) (entry_of v 0) (drop 1 v.entries) ∙ first_rest v

pub returns-in-Ok-clause-string : goal.returns-in-Ok-clause-string
returns-in-Ok-clause-string c =
    let v : ChainView = chain_of c.args.pool.now c.args.chain.now in
    ap flat_bytes c.in-Ok.ensures.ok.entries
    ∙ moved_bytes c.min-taken.result (empty_entry (room_low v.front.header) None) v.entries
