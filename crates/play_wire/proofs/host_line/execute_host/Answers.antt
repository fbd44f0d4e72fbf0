use Rattle.play_script.specs.Views.{plain_line}
use Rattle.segment.specs.Inside.{view}
use Rattle.play_wire.specs.Inside.{outcome_of}
use Rattle.play_wire.proofs.LinkLemmas.{host_by_stack}
use Rattle.play_wire.proofs.host_line.execute_host.Goals as goal

pub returns-in-None : goal.returns-in-None
returns-in-None c =
    host_by_stack c.args.place (plain_line c.args.line.now) (view c.args.segment.now)
    (view c.execute_by_link.new.segment) (view c.execute_at.new.segment)
    (outcome_of c.execute_at.result c.execute_at.new.report.reply_line c.execute_at.new.report.below)
    c.in-None.ensures c.execute_at.ensures
