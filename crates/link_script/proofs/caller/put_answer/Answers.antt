use Rattle.std.proofs.Common.{Some, None, refl}
use Rattle.flat_model.specs.Scripts.Texts.{answer_text}
use Rattle.request.specs.Replies.{reply_of}
use Rattle.request.specs.Requests.{event_of}
use Rattle.link_script.proofs.caller.put_answer.Goals as goal

pub returns-in-Some : goal.returns-in-Some
returns-in-Some c =
    let reply = reply_of c.call-reply.result in (
      answer_text (Some reply),
      (Some reply, (event_of c.in-Some.request, c.in-Some.ensures.event, c.call-reply.ensures.step), refl),
      c.put_line.ensures,
    )

pub returns-in-None : goal.returns-in-None
returns-in-None c = (answer_text None, (None, (c.in-None.ensures.event, refl), refl), c.append.ensures.items)
