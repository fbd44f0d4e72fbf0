-- The law is proved turn by turn.
use Rattle.flat_wire.proofs.Progress.{progress_law_lem}
use Rattle.flat_wire.proofs.laws.progress_law.Goals as goal

pub returns : goal.returns
returns c = progress_law_lem
