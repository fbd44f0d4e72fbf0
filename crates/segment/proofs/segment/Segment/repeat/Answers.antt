use Rattle.std.proofs.Common.{◌∙◌, ap, map, refl, arith}
use Rattle.std.specs.Prelude.{vec_capacity}
use Rattle.std.proofs.lemmas.List.{length-map}
use Rattle.segment.specs.Inside.{flying, view}
use Rattle.segment.proofs.Changing.{changed, copied, no_room, none_copied, same_flying}
use Rattle.segment.proofs.segment.Segment.repeat.Goals as goal

pub returns-then-at-len-clause-repeated : goal.returns-then-at-len-clause-repeated
returns-then-at-len-clause-repeated c =
    let v = view c.args.self.now in
    changed v v.flight _ v.room
    (none_copied v.flight c.args.at v.room
    (omega (arith, c.if-at-len.true, c.len.ensures, length-map c.args.self.now.flight.frames.items flying))
    (omega (arith, c.args.self.now.flight.frames.ok, length-map c.args.self.now.flight.frames.items flying))) refl

pub returns-then-len-capacity-clause-repeated : goal.returns-then-len-capacity-clause-repeated
returns-then-len-capacity-clause-repeated c =
    let v = view c.args.self.now in
    changed v v.flight _ v.room
    (no_room v.flight c.args.at v.room
    (omega (
      arith,
      c.if-len-capacity.true,
      c.len-2.ensures,
      c.capacity.ensures,
      length-map c.args.self.now.flight.frames.items flying,
    )) (omega (
      arith,
      c.args.self.now.flight.frames.ok,
      length-map c.args.self.now.flight.frames.items flying,
    ))) refl

pub returns-clause-repeated : goal.returns-clause-repeated
returns-clause-repeated c =
    let frames = c.args.self.now.flight.frames.items in
    let frame = c.index-frame.result.now in
    changed (view c.args.self.now) (map flying c.push_reserved.new.self.items) _ (vec_capacity c.push_reserved.new.self)
    (ap (map flying) c.push_reserved.ensures.items
    ∙ copied frames c.args.at (vec_capacity c.args.self.now.flight.frames) frame c.copy.new.self
    (omega (arith, c.if-at-len.false, c.len.ensures)) c.index-frame.ensures
    (same_flying c.copy.new.self frame c.copy.ensures.sender c.copy.ensures.wait c.copy.ensures.packet)
    (omega (arith, c.if-len-capacity.false, c.len-2.ensures, c.capacity.ensures)))
    c.push_reserved.ensures.capacity
