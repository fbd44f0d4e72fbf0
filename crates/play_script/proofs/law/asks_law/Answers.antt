use Rattle.play_script.proofs.LineLemmas.{one_ask}
use Rattle.play_script.proofs.law.asks_law.Goals as goal

pub returns : goal.returns
returns c = one_ask c.lines_law.ensures.one
