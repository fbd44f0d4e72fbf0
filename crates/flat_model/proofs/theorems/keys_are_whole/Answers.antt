-- A key is its four numbers.
use Rattle.flat_model.proofs.Machine.Keys.{whole_key}
use Rattle.flat_model.proofs.theorems.keys_are_whole.Goals as goal

pub returns : goal.returns
returns c = whole_key
