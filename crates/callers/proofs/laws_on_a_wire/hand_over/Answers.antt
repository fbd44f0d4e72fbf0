use Rattle.std.proofs.Common.{refl, arith}
use Rattle.callers.proofs.Calls.{are_bytes}
use Rattle.callers.proofs.laws_on_a_wire.hand_over.Goals as goal

pub returns : goal.returns
returns c = (
  (are_bytes c.args.packet.now (λ k. omega (arith, c.type_inv.packet k)), c.requires),
  c.rx.new.self,
  c.rx.ensures,
  refl,
)
