use Rattle.net_stack.proofs.Runs.{calls_run}
use Rattle.net_stack.proofs.laws.calls_are_run.Goals as goal

pub returns : goal.returns
returns c = calls_run
