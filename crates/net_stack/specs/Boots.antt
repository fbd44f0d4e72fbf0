-- How a stack starts and ends (this project's own).
use Rattle.std.specs.FinMap as finmap
use Rattle.flat_model.specs.declared.config.Config.{Config}
use Rattle.flat_model.specs.Machine.State.{IsConfig, HasSizes}
use Rattle.mbuf_chain.specs.Chain.{PoolView}
use Rattle.net_stack.specs.declared.stack.BootFault.{BootFault}
use Rattle.net_stack.specs.declared.stack.BootFault.TheVariants.{Memory, BadSizes, BadConfig}

-- why boot fails: the sizes are tested first, then the rest of the configuration
abbrev pub IsUnbooted : Config → BootFault → Type 0
IsUnbooted c BadSizes = ¬ HasSizes c
IsUnbooted c BadConfig = HasSizes c × ¬ IsConfig c
IsUnbooted c Memory = IsConfig c

-- a pool of the configuration's size without chains
abbrev pub free_pool : Config → PoolView
free_pool c = record { mbufs = c.mbufs; clusters = c.clusters; chains = finmap.empty }
