use Rattle.request.specs.Replies.{packet_behind, reply_of}
use Rattle.play_script.proofs.CaptureLemmas.{Captures-action}
use Rattle.play_script.proofs.execute.execute_action.Goals as goal

pub returns-clause-done : goal.returns-clause-done
returns-clause-done g c =
    let reply = reply_of c.act-reply.result in record {
      reply = reply;
      does = c.act-reply.ensures.does;
      captured =
          Captures-action c.args.capture.now.line c.args.capture.now.trace c.keep_action.new.self.trace
          c.args.action reply (packet_behind c.moved_by-moved.result) c.ticks_of.result c.moved_by-moved.ensures.packet
          c.ticks_of.ensures c.keep_action.ensures.logs;
      reports = c.act-reply.ensures.reply_line;
    }
