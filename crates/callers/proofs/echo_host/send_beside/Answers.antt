-- The law of receive limits, for the reply of this send.
use Rattle.std.proofs.Common.{Some, ap}
use Rattle.flat_model.specs.Machine.Replies.{sent_reply}
use Rattle.callers.proofs.echo_host.send_beside.Goals as goal

pub returns : goal.returns
returns c = λ e.
    c.stacks_isolate_sockets.ensures.send c.requires.limited.0 c.args.stack.now c.sendto.new.self c.args.fd
    (Some c.args.to) c.args.bytes.now c.requires.room.0 (sent_reply c.sendto.result) c.requires.limited.1
    c.requires.room.1 c.requires.room.2 c.sendto.ensures (ap sent_reply e)
