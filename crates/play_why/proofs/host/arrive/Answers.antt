use Rattle.std.proofs.Common.{refl}
use Rattle.stack_call.specs.Moves.{StackSteps}
use Rattle.play_why.proofs.host.arrive.Goals as goal

pub returns : goal.returns
unfolding StackSteps
returns c = (refl, c.call-reply.ensures.step.1)
