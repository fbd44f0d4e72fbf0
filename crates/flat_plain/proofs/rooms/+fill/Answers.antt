use Rattle.std.proofs.Common.{arith, inl, inr}
use Rattle.flat_plain.proofs.Filling.{fill_none, fill_step}
use Rattle.flat_plain.proofs.rooms.+fill.Goals as goal
use Rattle.flat_plain.proofs.rooms.+fill.Goals.{then-most-eq0-via-then-most-eq0, then-most-eq0-via-else-most-eq0+then-left-eq0}

pub returns-then-most-eq0-clause-rooms : goal.returns-then-most-eq0-clause-rooms
returns-then-most-eq0-clause-rooms t c =
    fill_none c.args.rooms.now.items c.args.most c.args.large c.args.small c.args.left
    (elim c.then-most-eq0.branch [
      | then-most-eq0-via-then-most-eq0 w ↦
          inl (omega arith)
      | then-most-eq0-via-else-most-eq0+then-left-eq0 w ↦ inr (omega arith)
    ])

pub returns-clause-rooms : goal.returns-clause-rooms
returns-clause-rooms t c =
    fill_step c.args.rooms.now.items c.push.new.self.items c.fill.new.rooms.items c.next-room.result c.args.most
    c.args.large c.args.small c.args.left c.size.result
    (omega arith) (omega arith) c.next-room.ensures c.in_ok-push.ensures.items c.size.ensures c.in_ok-fill.ensures.rooms
