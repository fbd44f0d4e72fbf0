use Rattle.std.proofs.Common.{ℕ, List, ap, sym, ◌∙◌}
use Rattle.flat_model.specs.Scripts.Texts.{reply_text}
use Rattle.net_stack.specs.Stack.{state_of}
use Rattle.request.specs.Replies.{reply_of}
use Rattle.play_script.specs.Outcomes.{reply_line}
use Rattle.play_script.proofs.StillLemmas.{Still-drops}
use Rattle.play_script.proofs.acting.act_still.Goals as goal

pub returns-clause-reply_line : goal.returns-clause-reply_line
returns-clause-reply_line c =
    c.set_still.ensures.reply_line
    ∙ ap (λ (d : List ℕ). reply_line (reply_text (reply_of c.perform-reply.result)) d)
    (sym (Still-drops c.args.action (state_of c.args.stack.now) (state_of c.perform-reply.new.stack)
    (reply_of c.perform-reply.result) c.requires.still c.perform-reply.ensures.does))
