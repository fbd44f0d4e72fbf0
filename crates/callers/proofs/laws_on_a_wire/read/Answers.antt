use Rattle.std.proofs.Common.{length, refl}
use Rattle.flat_model.specs.Machine.Replies.{received_reply}
use Rattle.callers.proofs.laws_on_a_wire.read.Goals as goal

pub returns : goal.returns
returns c = (
  length c.args.buffer.now,
  received_reply c.recvfrom.result c.recvfrom.new.buffer,
  (tt, c.recvfrom.new.self, c.recvfrom.ensures.step, refl),
)
