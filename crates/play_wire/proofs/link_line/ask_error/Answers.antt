use Rattle.std.proofs.Common.{◌∙◌, ap, sym}
use Rattle.std.specs.Prelude.{is_some}
use Rattle.segment.specs.Inside.{view}
use Rattle.play_wire.specs.Links.{LastError}
use Rattle.play_wire.proofs.LinkLemmas.{error_asked, error_never, not_counted}
use Rattle.play_wire.proofs.link_line.ask_error.Goals as goal

pub returns-in_default : goal.returns-in_default
returns-in_default c =
    not_counted c.args.place (LastError c.args.fd) (view c.args.segment.now) (view c.counts_at.new.segment)
    c.counts_at.ensures.same c.requires c.in_default.ensures.counts

pub returns-in-Some-last_error : goal.returns-in-Some-last_error
returns-in-Some-last_error c =
    error_asked c.args.place c.args.fd (view c.args.segment.now) (view c.counts_at.new.segment)
    (view c.last_error.new.self) c.in-Some.field-0 c.in-Some-last_error.error c.report_error.new.reply_line
    c.clear.new.self
    c.counts_at.ensures.same c.in-Some.ensures.counts c.in-Some-last_error.ensures.asked c.report_error.ensures
    c.clear.ensures

pub returns-in-None : goal.returns-in-None
returns-in-None c =
    error_never c.args.place (LastError c.args.fd) (view c.args.segment.now) (view c.counts_at.new.segment)
    (view c.last_error.new.self) c.in-Some.field-0 c.counts_at.ensures.same c.in-Some.ensures.counts
    (sym (ap is_some c.in-None.is) ∙ c.last_error.ensures.is)
