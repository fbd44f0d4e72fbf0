use Rattle.std.proofs.Common.{[], refl}
use Rattle.play_wire.proofs.PlayLemmas.{nothing_more}
use Rattle.play_wire.proofs.player.put_fitting.Goals as goal

pub returns-then-fits : goal.returns-then-fits
returns-then-fits c = (c.args.bytes.now, λ none. none, c.append.ensures.items)

pub returns-else-fits : goal.returns-else-fits
returns-else-fits c = ([], λ none. refl, nothing_more c.args.text.now)
