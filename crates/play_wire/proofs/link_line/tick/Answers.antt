use Rattle.std.proofs.Common.{◌∙◌, sym}
use Rattle.segment.specs.Inside.{view}
use Rattle.play_wire.specs.Links.{Ticks}
use Rattle.play_wire.proofs.LinkLemmas.{not_linked, ticked}
use Rattle.play_wire.proofs.link_line.tick.Goals as goal

pub tick_linked-requires : goal.tick_linked-requires
tick_linked-requires c = sym c.is_linked.ensures ∙ c.if-is_linked.true

pub returns-then-is_linked : goal.returns-then-is_linked
returns-then-is_linked c =
    ticked c.args.place c.args.count (view c.args.segment.now) (view c.tick_linked.new.segment)
    c.set_ok.new.self.reply_line c.set_ok.new.self.below c.requires c.tick_linked.ensures c.set_ok.ensures.reply_line
    c.set_ok.ensures.below

pub returns-else-is_linked : goal.returns-else-is_linked
returns-else-is_linked c =
    not_linked c.args.place (Ticks c.args.count) (view c.args.segment.now) c.requires
    (sym c.is_linked.ensures ∙ c.if-is_linked.false)
