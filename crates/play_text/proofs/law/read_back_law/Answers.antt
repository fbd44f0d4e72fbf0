use Rattle.play_text.proofs.StringLemmas.{read_back}
use Rattle.play_text.proofs.law.read_back_law.Goals as goal

pub returns : goal.returns
returns c = read_back
