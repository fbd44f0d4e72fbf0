use Rattle.play_script.proofs.TurnLemmas.{Prints-run}
use Rattle.play_script.proofs.law.runs_law.Goals as goal

pub returns : goal.returns
returns g c = Prints-run c.trace_law.ensures g.F.Folder.may_have
