use Rattle.std.proofs.Common.{ℕ, List, ap, ◌∙◌}
use Rattle.flat_model.specs.Scripts.Texts.{reply_text}
use Rattle.request.specs.Replies.{reply_of}
use Rattle.play_script.specs.Outcomes.{reply_line}
use Rattle.play_script.proofs.report.Report.set_reply.Goals as goal

pub returns-clause-reply_line : goal.returns-clause-reply_line
returns-clause-reply_line c =
    c.put_reply_line.ensures ∙ ap (λ (d : List ℕ). reply_line (reply_text (reply_of c.args.reply.now)) d)
    (c.bytes_of.ensures.is ∙ c.put_drops.ensures)
