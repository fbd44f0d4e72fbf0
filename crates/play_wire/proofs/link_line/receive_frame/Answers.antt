use Rattle.segment.specs.Inside.{view}
use Rattle.play_wire.specs.Links.{Frame}
use Rattle.play_wire.proofs.LinkLemmas.{frame_counted, frame_received, not_counted}
use Rattle.play_wire.proofs.link_line.receive_frame.Goals as goal

pub returns-in_default : goal.returns-in_default
returns-in_default c =
    not_counted c.args.place (Frame c.args.frame.now) (view c.args.segment.now) (view c.counts_at.new.segment)
    c.counts_at.ensures.same c.requires.link c.in_default.ensures.counts

pub returns-in-Some-counts_at : goal.returns-in-Some-counts_at
returns-in-Some-counts_at c =
    frame_received c.args.place c.args.frame.now (view c.args.segment.now) (view c.counts_at.new.segment)
    (view c.receive.new.self) (view c.counts_at-2.new.segment) c.in-Some.before c.in-Some-counts_at.after
    c.receive.result
    c.report_frame.new.reply_line c.clear.new.self c.counts_at.ensures.same c.in-Some.ensures.counts
    c.receive.ensures.is
    c.receive.ensures.received c.counts_at-2.ensures.same c.in-Some-counts_at.ensures.counts c.report_frame.ensures
    c.clear.ensures

pub returns-in-None : goal.returns-in-None
returns-in-None c =
    frame_counted c.args.place c.args.frame.now (view c.args.segment.now) (view c.counts_at.new.segment)
    (view c.receive.new.self) (view c.counts_at-2.new.segment) c.in-Some.before c.receive.result
    c.counts_at.ensures.same c.in-Some.ensures.counts c.receive.ensures.is c.receive.ensures.received
    c.in-None.ensures.counts
