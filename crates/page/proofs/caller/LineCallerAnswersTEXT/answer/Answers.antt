use Rattle.std.proofs.Common.{Some, inr, refl}
use Rattle.flat_model.specs.Machine.Event.{Set_limit}
use Rattle.flat_model.specs.Scripts.Texts.{answer_text}
use Rattle.net_stack.specs.Stack.{state_of}
use Rattle.request.specs.Replies.{reply_of}
use Rattle.stack_call.specs.Moves.{StackSteps}
use Rattle.page.proofs.Lines.{line_says}
use Rattle.page.proofs.caller.LineCallerAnswersTEXT.answer.Goals as goal

pub returns-in-Some : goal.returns-in-Some
returns-in-Some c =
    let reply = reply_of c.set_limit-reply.result in
    let fd = c.in-Some.fd in
    let limit = c.in-Some.limit in (
      answer_text (Some reply),
      (Some reply, (Set_limit fd limit, inr (fd, limit, refl, c.in-Some.ensures), c.set_limit-reply.ensures.step), refl),
      c.put_line.ensures,
    )

pub returns-in-None : goal.returns-in-None
returns-in-None c =
    let said = c.answer.ensures in (
      said.0,
      line_says StackSteps (state_of c.args.self.now.caller.machine) c.args.line.now said.0
          (state_of c.answer.new.self.machine) c.in-None.ensures said.1,
      said.2,
    )
