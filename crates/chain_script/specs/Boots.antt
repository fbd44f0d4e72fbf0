-- The sizes with which a pool can be booted (this project's own).
use Rattle.std.specs.Prelude.{Result, Ok, Err}
use Rattle.mbuf_pool.specs.Store.{IsBad}
use Rattle.mbuf_pool.specs.declared.sizes.Sizes.{Sizes}
use Rattle.script_loop.specs.declared.fault.RunFault.{RunFault}
use Rattle.script_loop.specs.declared.fault.RunFault.TheVariants.{Read, Write, Memory, TooManyLines, BadSizes, BadConfig}

-- invalid sizes are rejected before any other test
abbrev pub BootsChains : Sizes → Result Unit RunFault → Type 0
BootsChains z (Err BadSizes) = IsBad z
BootsChains z (Err BadConfig) = ⊥
BootsChains z (Ok done) = ¬ IsBad z
BootsChains z (Err Read) = ¬ IsBad z
BootsChains z (Err Write) = ¬ IsBad z
BootsChains z (Err Memory) = ¬ IsBad z
BootsChains z (Err TooManyLines) = ¬ IsBad z
