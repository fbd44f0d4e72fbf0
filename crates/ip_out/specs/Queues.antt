-- The output queue: a train of packets (`ifqueue` of volume 2, chapter 3).
use Rattle.std.specs.Prelude.{◌≡◌, ℕ, ◌<◌, ◌≤◌, List, ◌++◌, length, take}
use Rattle.params.specs.declared.TheConstants.{OUTPUT_QUEUE_PACKETS}
use Rattle.flat_model.specs.Amounts.Weight.{Item}
use Rattle.flat_model.specs.declared.errno.Lack.{Lack}
use Rattle.flat_model.specs.declared.errno.Lack.TheVariants.{Pool, Queue}
use Rattle.mbuf_chain.specs.Chain.{PoolView, without}
use Rattle.mbuf_chain.specs.Train.{TrainView, IsHeld}
use Rattle.chain_ops.specs.Makes.{HasMbufs, LacksMbufs}
use Rattle.ip_out.specs.Packets.{train_packets}

-- the queue and the pool fit together, and at most 50 packets wait
pub record IsOutputQueue (p : PoolView) (q : TrainView) : Type 0 where
  pub held : IsHeld p q
  pub room : q.len ≤ OUTPUT_QUEUE_PACKETS

-- Why an output of the chain c as these packets was refused, and the state then: the pool has too few mbufs for the
-- later packets, and the chain is freed; or not all packets fit in the queue, and those that fit are queued.
abbrev pub IsOutputRefused : Lack → PoolView → TrainView → ℕ → List Item → ℕ → PoolView → TrainView → Type 0
IsOutputRefused Pool p t c all need q u = LacksMbufs p need × (q ≡ without p c) × (u ≡ t)
IsOutputRefused Queue p t c all need q u =
    HasMbufs p need
    × (OUTPUT_QUEUE_PACKETS < length (train_packets p t ++ all))
    × (train_packets q u ≡ take OUTPUT_QUEUE_PACKETS (train_packets p t ++ all))
