use Rattle.std.proofs.Common.{arith, sym, ◌∙◌, ap, inl}
use Rattle.flat_plain.specs.Rooms.{rooms_of}
use Rattle.flat_plain.proofs.Filling.{or_empty_some, or_empty_none}
use Rattle.flat_plain.proofs.rooms.layout.Goals as goal

pub returns-then-n-eq0 : goal.returns-then-n-eq0
returns-then-n-eq0 c =
    ap rooms_of c.in_ok-push.ensures.items
    ∙ rw c.new-rooms.ensures.items
    (sym (or_empty_none c.args.n c.args.large c.args.small c.args.n (inl (omega arith))))

pub returns : goal.returns
returns c =
    c.in_ok-fill.ensures.rooms ∙ rw c.new-rooms.ensures.items
    (sym (or_empty_some c.args.n c.args.large c.args.small c.args.n (omega arith) (omega arith)))
