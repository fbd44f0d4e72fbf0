use Rattle.std.proofs.Common.{refl, arith}
use Rattle.flat_model.specs.Machine.Replies.{sent_reply}
use Rattle.callers.proofs.Calls.{are_bytes}
use Rattle.callers.proofs.laws_on_a_wire.send.Goals as goal

pub returns : goal.returns
returns c = (
  sent_reply c.sendto.result,
  (
    (
      record { ip = omega arith; port = omega arith },
      are_bytes c.args.bytes.now (λ k. omega (arith, c.type_inv.bytes k)),
    ),
    c.sendto.new.self,
    c.sendto.ensures,
    refl,
  ),
)
