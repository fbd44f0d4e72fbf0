use Rattle.std.proofs.Common.{ℕ, List, ap, ◌∙◌}
use Rattle.flat_model.specs.Scripts.Texts.{reply_text}
use Rattle.net_stack.specs.Stack.{state_of}
use Rattle.request.specs.Replies.{reply_of}
use Rattle.play_script.specs.Outcomes.{reply_line}
use Rattle.play_script.proofs.StillLemmas.{Snapshot-drops}
use Rattle.play_script.proofs.acting.act_moving.Goals as goal

pub returns-clause-reply_line : goal.returns-clause-reply_line
returns-clause-reply_line c =
    c.set_reply.ensures.reply_line
    ∙ ap (λ (d : List ℕ). reply_line (reply_text (reply_of c.perform-reply.result)) d)
    (Snapshot-drops (state_of c.args.stack.now) (state_of c.perform-reply.new.stack) c.snapshot_of-before.result
    c.snapshot_of-after.result c.snapshot_of-before.ensures c.snapshot_of-after.ensures)
