use Rattle.std.proofs.Common.{refl, arith}
use Rattle.segment.proofs.Taking.{are_bytes}
use Rattle.segment.proofs.ways.hand_over.Goals as goal

pub returns : goal.returns
returns g c = (
  (are_bytes c.args.packet.now (λ k. omega (arith, c.type_inv.packet k)), omega arith),
  c.rx.new.self,
  c.rx.ensures,
  refl,
)
