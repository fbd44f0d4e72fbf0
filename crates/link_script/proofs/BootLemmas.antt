-- A machine that isn't made serves nothing.
use Rattle.std.proofs.Common.{ℕ, List, Option, Err, refl}
use Rattle.flat_model.specs.Machine.Event.{Event, Reply}
use Rattle.flat_model.specs.Machine.State.{State, boot}
use Rattle.flat_model.specs.declared.config.Config.{Config}
use Rattle.script_loop.specs.Serves.{Serves}
use Rattle.script_loop.specs.declared.fault.RunFault.{RunFault}
use Rattle.script_loop.specs.declared.fault.RunFault.TheVariants.{Read, Write, Memory, TooManyLines, BadSizes, BadConfig}
use Rattle.script_loop.proofs.Laws.{Moves-none}
use Rattle.link_script.specs.Says.{SaysBy}
use Rattle.link_script.specs.Boots.{IsRunUnbooted}

pub Serves-unbooted : (step : State → Event → Reply → State → Type 0) (c : Config) (fault : RunFault)
    (a w : Option (List ℕ)) → IsRunUnbooted c fault
    → (new : State) × Serves (SaysBy step) (boot c) new a a w w (Err fault)
Serves-unbooted step c Memory a w h = (boot c, (Moves-none a w, refl))
Serves-unbooted step c BadSizes a w h = (boot c, (Moves-none a w, refl))
Serves-unbooted step c BadConfig a w h = (boot c, (Moves-none a w, refl))
Serves-unbooted step c Read a w h = absurd h
Serves-unbooted step c Write a w h = absurd h
Serves-unbooted step c TooManyLines a w h = absurd h
