-- The configurations with which a machine can be booted (this project's own).
use Rattle.std.specs.Prelude.{Result, Err}
use Rattle.flat_model.specs.declared.config.Config.{Config}
use Rattle.flat_model.specs.Machine.State.{IsConfig, HasSizes}
use Rattle.net_stack.specs.declared.stack.BootFault.{BootFault}
use Rattle.net_stack.specs.declared.stack.BootFault.TheVariants as boot
use Rattle.script_loop.specs.declared.fault.RunFault.{RunFault}
use Rattle.script_loop.specs.declared.fault.RunFault.TheVariants.{Memory, BadSizes, BadConfig}

-- the fault of a run whose stack didn't boot
abbrev pub refused_as : BootFault → RunFault
refused_as boot.Memory = Memory
refused_as boot.BadSizes = BadSizes
refused_as boot.BadConfig = BadConfig

-- why the machine doesn't boot: the sizes are tested first, then the rest of the configuration
abbrev pub IsRunUnbooted : Config → RunFault → Type 0
IsRunUnbooted c BadSizes = ¬ HasSizes c
IsRunUnbooted c BadConfig = HasSizes c × ¬ IsConfig c
IsRunUnbooted c Memory = IsConfig c
IsRunUnbooted c _ = ⊥

-- the same for a whole run, which may fail later
abbrev pub BootsRun : Config → Result Unit RunFault → Type 0
BootsRun c (Err BadSizes) = ¬ HasSizes c
BootsRun c (Err BadConfig) = HasSizes c × ¬ IsConfig c
BootsRun c _ = IsConfig c
