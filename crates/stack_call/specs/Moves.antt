-- A step of the machine with exact accounts, as one fact that nothing opens by itself (this project's own).
use Rattle.flat_model.specs.Machine.Event.{Event, Reply}
use Rattle.flat_model.specs.Machine.State.{State}
use Rattle.flat_model.specs.Machine.Step.{Step}

unfoldable pub StackSteps : State → Event → Reply → State → Type 0
StackSteps = Step
