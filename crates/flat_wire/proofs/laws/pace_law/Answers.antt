-- The numbers add up.
use Rattle.flat_wire.proofs.ForEver.{pace_law_lem}
use Rattle.flat_wire.proofs.laws.pace_law.Goals as goal

pub returns : goal.returns
returns c = pace_law_lem
