-- The output queue gives out what was put in, all of it, once, in order (this project's own).
use Rattle.std.specs.Prelude.{◌≡◌, ℕ, ◌≤◌, List, ◌++◌, length, map, filter_map}
use Rattle.params.specs.declared.TheConstants.{OUTPUT_QUEUE_PACKETS}
use Rattle.flat_model.specs.Amounts.Weight.{Item}
use Rattle.flat_model.specs.Machine.State.{State}
use Rattle.flat_model.specs.Machine.Ledger.{Ledger}
use Rattle.flat_model.specs.Runs.Run.{Turn, Leads}
use Rattle.flat_wire.specs.Wire.{packet_out}

-- the packets in a queue
abbrev pub packets_in_queue : List Item → List (List ℕ)
packets_in_queue output = map (λ item. item.bytes) output

-- What waited, and then what was queued since (`later`), is what was given out, and then what waits now.
pub record KeepsOrder (before given after : List (List ℕ)) : Type 0 where
  pub later : List (List ℕ)
  pub same : before ++ later ≡ given ++ after

-- This holds for any turns, from any state whose queue isn't too long. So a packet behind n others is what the link
-- takes at its (n + 1)-th turn, whatever happens in between.
abbrev pub QueueLaw : Ledger → Type 0
QueueLaw L = (old new : State) (turns : List Turn) → length old.output ≤ OUTPUT_QUEUE_PACKETS → Leads L old turns new
    → KeepsOrder (packets_in_queue old.output) (filter_map packet_out turns) (packets_in_queue new.output)
