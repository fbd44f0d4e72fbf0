-- The effects of the program, by its exit status (this project's own).
use Rattle.std.specs.Prelude.{◌≡◌, ◌⊎◌, ℕ, List, [], Option, Result, Ok, Err}
use Rattle.flat_model.specs.Machine.State.{State, boot}
use Rattle.flat_model.specs.Machine.Step.{Step}
use Rattle.flat_model.specs.declared.config.Config.{Config}
use Rattle.script_loop.specs.Serves.{Serves, ReadsAndWrites}
use Rattle.script_loop.specs.declared.fault.RunFault.{RunFault}
use Rattle.script_loop.specs.declared.fault.RunFault.TheVariants.{Read, Write, Memory, TooManyLines}
use Rattle.link_script.specs.Says.{SaysBy}
use Rattle.link_script.specs.Boots.{BootsRun}
use Rattle.link_script.specs.declared.command_line.Failure.{Failure}
use Rattle.link_script.specs.declared.command_line.Failure.TheVariants as failure
use Rattle.link_script.specs.declared.command_line.Failure.TheVariants.{Usage}
use Rattle.link_script.specs.declared.options.Task.{Task}
use Rattle.link_script.specs.declared.options.Task.TheVariants as task
use Rattle.chain_script.specs.Boots as chains
use Rattle.chain_script.specs.Machines.{Machine, booted}
use Rattle.chain_script.specs.Steps as steps

-- 10.0.0.1, 10.0.0.255, an MTU of 1500, 512 mbufs, 64 clusters and the first identification 1
abbrev pub defaults : Config
defaults = record { addr = 167772161; bcast = 167772415; mtu = 1500; mbufs = 512; clusters = 64; first_id = 1 }

abbrev pub fault_status : RunFault → ℕ
fault_status Read = 4
fault_status Write = 4
fault_status TooManyLines = 4
fault_status _ = 3

abbrev pub status_of : Result Unit Failure → ℕ
status_of (Ok done) = 0
status_of (Err Usage) = 2
status_of (Err (failure.Run fault)) = fault_status fault

-- why words request no task: they aren't a command, or the host refused memory
abbrev pub IsWordsFault : (Task → Type 0) → Failure → Type 0
IsWordsFault asks Usage = (task : Task) → ¬ asks task
IsWordsFault asks (failure.Run fault) = fault ≡ Memory

-- the script of a task was served: on a machine with this configuration, or on chains over a pool of these sizes
abbrev pub Served : Task → Option (List ℕ) → Option (List ℕ) → Option (List ℕ) → Option (List ℕ) → Result Unit RunFault
    → Type 0
Served (task.Run config) unread rest before after outcome =
    BootsRun config outcome × (new : State) × Serves (SaysBy Step) (boot config) new unread rest before after outcome
Served (task.Chain sizes) unread rest before after outcome =
    chains.BootsChains sizes outcome × (new : Machine)
    × Serves steps.Says (booted sizes.mbufs sizes.clusters) new unread rest before after outcome

-- The effects for words that request these tasks. If they request none, or memory for reading them was lacking, nothing
-- was read or written; otherwise the script that they request was served.
abbrev pub Ran : (Task → Type 0) → Option (List ℕ) → Option (List ℕ) → Option (List ℕ) → Option (List ℕ)
    → Result Unit Failure → Type 0
Ran asks unread rest before after (Err Usage) =
    ((task : Task) → ¬ asks task) × ReadsAndWrites unread rest [] before after []
Ran asks unread rest before after (Err (failure.Run fault)) =
    ((fault ≡ Memory) × ReadsAndWrites unread rest [] before after [])
    ⊎ ((task : Task) × asks task × Served task unread rest before after (Err fault))
Ran asks unread rest before after (Ok done) = (task : Task) × asks task × Served task unread rest before after (Ok done)
