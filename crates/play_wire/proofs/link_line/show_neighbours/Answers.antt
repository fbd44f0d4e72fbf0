use Rattle.segment.specs.Inside.{view}
use Rattle.play_wire.proofs.LinkLemmas.{neighbours_shown, no_link}
use Rattle.play_wire.specs.Links.{Neighbours}
use Rattle.play_wire.proofs.link_line.show_neighbours.Goals as goal

pub returns-in_default : goal.returns-in_default
returns-in_default c = no_link c.args.place Neighbours (view c.args.segment.now) c.in_default.ensures

pub returns : goal.returns
returns c =
    neighbours_shown c.args.place (view c.args.segment.now) c.in-Some.neighbours.now c.report_neighbours.new.reply_line
    c.report_neighbours.new.below c.in-Some.ensures c.report_neighbours.ensures
