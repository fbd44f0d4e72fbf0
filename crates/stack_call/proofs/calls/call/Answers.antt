use Rattle.stack_call.specs.Moves.{StackSteps}
use Rattle.stack_call.proofs.calls.call.Goals as goal

pub returns-in-Send-clause-step : goal.returns-in-Send-clause-step
unfolding StackSteps
returns-in-Send-clause-step c = rw (c.in-Send.is, c.sent.ensures.reply) c.sendto.ensures
