-- The view of a stack, the state of the flat machine that it means, and when its parts are consistent (this project's
-- own).
use Rattle.std.specs.Prelude.{◌≡◌, ℕ, List, ◌++◌}
use Rattle.flat_model.specs.Machine.State.{State, boot}
use Rattle.flat_model.specs.Runs.Consistent.{IsConsistent}
use Rattle.flat_model.specs.declared.config.Config.{Config}
use Rattle.flat_model.specs.declared.counters.Counters.{Counters}
use Rattle.mbuf_chain.specs.Chain.{PoolView}
use Rattle.mbuf_chain.specs.Owners.{IsAll}
use Rattle.mbuf_chain.specs.Train.{TrainView, numbers}
use Rattle.ip_out.specs.Packets.{train_packets}
use Rattle.ip_out.specs.Queues.{IsOutputQueue}
use Rattle.ip_reass.specs.Table.{TableView, IsReady, held_all, unfinished}
use Rattle.sock_calls.specs.Sockets.{SocksView, IsSocks, queued_chains, with_net}

-- the parts of a stack: `reass` has the unfinished datagrams, and `output` the packets that wait for the link
pub record StackView : Type 0 where
  pub config : Config
  pub pool : PoolView
  pub socks : SocksView
  pub reass : TableView
  pub output : TrainView
  pub next_id : ℕ
  pub counters : Counters

-- a machine with its configuration, output and identification
abbrev pub rest_of_stack : StackView → State
rest_of_stack s = record (boot s.config) { output = train_packets s.pool s.output; next_id = s.next_id }

-- the state of the flat machine
abbrev pub state_of : StackView → State
state_of s = with_net s.pool s.socks (unfinished s.pool s.reass.datagrams) s.counters (rest_of_stack s)

-- the numbers of all its chains
abbrev pub stack_chains : StackView → List ℕ
stack_chains s = (held_all s.pool s.reass.datagrams ++ queued_chains s.pool s.socks.queues) ++ numbers s.pool s.output

-- Parts, pool and configuration fit together, each chain of the pool has one owner among the parts, and the state is
-- one that the flat machine may reach.
pub record IsStack (s : StackView) : Type 0 where
  pub mbufs : s.config.mbufs ≡ s.pool.mbufs
  pub clusters : s.config.clusters ≡ s.pool.clusters
  pub socks : IsSocks s.pool s.socks
  pub reass : IsReady s.pool s.reass
  pub output : IsOutputQueue s.pool s.output
  pub all : IsAll s.pool (stack_chains s)
  pub consistent : IsConsistent (state_of s)
