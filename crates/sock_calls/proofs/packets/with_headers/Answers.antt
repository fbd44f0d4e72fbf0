use Rattle.std.proofs.Common.{arith}
use Rattle.sock_calls.proofs.Making.{no_lack, no_lack_there, stored_is}
use Rattle.sock_calls.proofs.packets.with_headers.Goals as goal

pub unreachable-requires : goal.unreachable-requires
unreachable-requires c = no_lack c.args.pool.now _ c.requires.free c.in_default.ensures.err

pub unreachable-requires-in-Err : goal.unreachable-requires-in-Err
unreachable-requires-in-Err c = no_lack_there c.args.bytes.now c.args.headers.now c.sent_layout.ensures
    c.in-Ok.ensures.ok (omega arith) c.requires.free c.in-Err.ensures.err

pub returns-clause-stored : goal.returns-clause-stored
returns-clause-stored c = stored_is c.args.bytes.now c.args.headers.now c.sent_layout.ensures c.in-Ok.ensures.ok
    c.in-Ok.ensures.string (omega arith) c.in-Ok-m_prepend.ensures.ok c.in-Ok-m_prepend.ensures.string
