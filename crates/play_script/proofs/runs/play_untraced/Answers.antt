use Rattle.play_script.proofs.RunLemmas.{Serves-none}
use Rattle.stack_call.specs.Moves.{StackSteps}
use Rattle.net_stack.specs.Stack.{state_of}
use Rattle.play_script.proofs.runs.play_untraced.Goals as goal

pub returns-in_default-clause-served : goal.returns-in_default-clause-served
returns-in_default-clause-served g c =
    rw c.unplayed.ensures (Serves-none StackSteps (state_of c.args.booted.0) c.args.style.form _ _ _)
