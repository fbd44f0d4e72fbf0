use Rattle.std.proofs.Common.{sym}
use Rattle.request.specs.Replies.{reply_of}
use Rattle.play_script.proofs.ActionLemmas.{ticks_move}
use Rattle.play_script.proofs.action.moved_by.Goals as goal

pub returns-in-Ticks-clause-packet : goal.returns-in-Ticks-clause-packet
returns-in-Ticks-clause-packet c = rw c.in-Ticks.is (sym (ticks_move c.in-Ticks.field-0 (reply_of c.args.reply.now)))
