use Rattle.std.proofs.Common.{refl, arith}
use Rattle.segment.proofs.Taking.{are_bytes}
use Rattle.segment.proofs.links.hand_over.Goals as goal

pub returns : goal.returns
returns g c = (
  _,
  (are_bytes c.args.frame.now (λ k. omega (arith, c.type_inv.frame k)), omega arith, c.receive.ensures.takes),
  refl,
)
