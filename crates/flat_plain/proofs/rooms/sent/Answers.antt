use Rattle.std.proofs.Common.{arith, sym, ◌∙◌}
use Rattle.flat_plain.proofs.Filling.{sent_long}
use Rattle.flat_plain.proofs.rooms.sent.Goals as goal

pub returns-clause-rooms : goal.returns-clause-rooms
returns-clause-rooms c =
    c.in_ok-fill.ensures.rooms ∙ rw (c.in_ok-push-2.ensures.items, c.new-rooms.ensures.items)
    (sym (sent_long c.args.n (omega arith)))
