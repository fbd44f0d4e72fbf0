use Rattle.play_show.proofs.ShownLemmas.{Snapshot-stack}
use Rattle.play_show.proofs.shown_law.looks_law.Goals as goal

pub returns : goal.returns
returns c = Snapshot-stack
