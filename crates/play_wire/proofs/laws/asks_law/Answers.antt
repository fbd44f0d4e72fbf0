use Rattle.play_wire.proofs.WireLemmas.{one_ask}
use Rattle.play_wire.proofs.laws.asks_law.Goals as goal

pub returns : goal.returns
returns c = one_ask
