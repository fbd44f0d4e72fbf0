use Rattle.std.proofs.Common.{refl}
use Rattle.segment.specs.Inside.{view}
use Rattle.play_wire.proofs.ActLemmas.{moves_not}
use Rattle.play_wire.proofs.carries.settle.Goals as goal

pub returns-else-is_ether : goal.returns-else-is_ether
returns-else-is_ether g c = moves_not (view c.args.segment.now) (view c.args.segment.now) refl
