-- The law is proved on the parts by their index.
use Rattle.flat_model.proofs.Fragments.Grid.{cuts_join_lem}
use Rattle.flat_model.proofs.theorems.cuts_join.Goals as goal

pub returns : goal.returns
returns c = cuts_join_lem
