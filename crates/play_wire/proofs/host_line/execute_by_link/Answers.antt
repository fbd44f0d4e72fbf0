use Rattle.std.proofs.Common.{refl}
use Rattle.play_script.specs.Views.{plain_line}
use Rattle.segment.specs.Inside.{view}
use Rattle.play_wire.specs.Inside.{outcome_of, link_asked}
use Rattle.play_wire.proofs.LinkLemmas.{host_by_link}
use Rattle.play_wire.proofs.host_line.execute_by_link.Goals as goal

pub returns-in-Some : goal.returns-in-Some
returns-in-Some c =
    host_by_link c.args.asked.place (plain_line c.args.asked.line.now) (link_asked c.in-Some.ask)
    (view c.args.segment.now) (view c.execute_link.new.segment)
    (outcome_of c.execute_link.result c.execute_link.new.report.reply_line c.execute_link.new.report.below)
    c.in-Some.ensures.none c.in-Some.ensures.link c.execute_link.ensures

pub returns-in-None : goal.returns-in-None
returns-in-None c = (c.in-None.ensures.none, refl)
