use Rattle.std.proofs.Common.{sym}
use Rattle.play_script.proofs.RunLemmas.{Serves-started, Serves-unplayed}
use Rattle.stack_call.specs.Moves.{StackSteps}
use Rattle.net_stack.specs.Stack.{state_of}
use Rattle.play_script.proofs.runs.play_machine.Goals as goal

pub returns-in_default-clause-served : goal.returns-in_default-clause-served
returns-in_default-clause-served g c =
    rw c.unplayed-played.ensures
    (Serves-unplayed StackSteps g.F.Folder.may_have (state_of c.args.booted.0) c.args.booted.1.trace c.args.style.form _
    _ _)

pub returns-clause-served : goal.returns-clause-served
returns-clause-served g c =
    let printer = c.in-Ok.parts.printer in
    Serves-started StackSteps g.F.Folder.may_have (state_of c.args.booted.0) c.args.booted.1.trace c.end-trace.result
    c.args.booted.1.config
    printer.number printer.sound printer.lacks printer.texts printer.form c.args.style.form printer.name _ _ _ _ _ _ c.serve_script-outcome.result
    (sym c.requires)
    c.in-Ok.ensures.0 c.in-Ok.ensures.1 c.in-Ok.ensures.2 c.in-Ok.ensures.3
    c.in-Ok.ensures.4 c.in-Ok.ensures.5 c.end-trace.ensures
    c.serve_script-outcome.ensures.served
