use Rattle.flat_model.specs.Machine.Step.{Step}
use Rattle.link_script.proofs.RunLemmas.{Prints-answers, Prints-run}
use Rattle.link_script.proofs.laws.prints_law.Goals as goal

pub returns-clause-all : goal.returns-clause-all
returns-clause-all c = Prints-answers Step

pub returns-clause-run : goal.returns-clause-run
returns-clause-run c = Prints-run
