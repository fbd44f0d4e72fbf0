-- A packet leaves the output queue, for every rest of the machine (this project's own).
use Rattle.std.specs.Prelude.{ℕ, ◌≤◌, length}
use Rattle.std.specs.List.{AllByRecursion}
use Rattle.flat_model.specs.Amounts.Weight.{Item}
use Rattle.flat_model.specs.Machine.Event.{Reply}
use Rattle.flat_model.specs.Machine.State.{State}
use Rattle.flat_model.specs.Machine.Step.{Transmits}
use Rattle.mbuf_chain.specs.Chain.{PoolView}
use Rattle.mbuf_chain.specs.Owners.{Moves}
use Rattle.mbuf_chain.specs.Train.{TrainView, numbers}
use Rattle.ip_out.specs.Packets.{train_packets}
use Rattle.ip_out.specs.Queues.{IsOutputQueue}

-- each packet of the queue has at most this number of bytes
abbrev pub AreWithin : PoolView → TrainView → ℕ → Type 0
AreWithin p t most = AllByRecursion (λ (item : Item). length item.bytes ≤ most) (train_packets p t)

-- the machine with this output, and otherwise `rest`
abbrev pub with_packets : PoolView → TrainView → State → State
with_packets p t rest = record rest { output = train_packets p t }

-- The link took the oldest packet, and its buffers are free.
pub record IsGiven (p : PoolView) (t : TrainView) (reply : Reply) (q : PoolView) (u : TrainView) : Type 0 where
  pub step : (rest : State) → Transmits (train_packets p t) (with_packets p t rest) reply (with_packets q u rest)
  pub queue : IsOutputQueue q u
  pub moves : Moves p (numbers p t) q (numbers q u)
