-- A send with all that it may change, for every rest of the machine (`sosend` and `ip_output` of volume 2, chapters 16
-- and 8; the form with a pool's view is this project's own).
use Rattle.std.specs.Prelude.{◌≡◌, ℕ, Bool, true, false, List, ◌++◌, Option, None, Result, Ok, Err}
use Rattle.flat_model.specs.Amounts.Weight.{nothing}
use Rattle.flat_model.specs.Machine.State.{State}
use Rattle.flat_model.specs.Machine.Ledger.{exact_ledger}
use Rattle.flat_model.specs.Machine.Event.{Send}
use Rattle.flat_model.specs.Machine.Replies.{sent_reply}
use Rattle.flat_model.specs.Machine.Step.{Step}
use Rattle.flat_model.specs.Machine.Arrival.{AllArrive}
use Rattle.flat_model.specs.declared.address.Addr.{Addr}
use Rattle.flat_model.specs.declared.errno.Errno.{Errno}
use Rattle.flat_model.specs.declared.errno.Errno.TheVariants.{NoBufs}
use Rattle.flat_model.specs.declared.errno.Lack.{Lack}
use Rattle.flat_model.specs.declared.errno.Lack.TheVariants.{Pool, Queue}
use Rattle.mbuf_chain.specs.Owners.{Moves}
use Rattle.mbuf_chain.specs.Train.{TrainView, IsHeld, numbers}
use Rattle.ledger.specs.Accounts.{weight_owned, IsAccounted}
use Rattle.ip_out.specs.Packets.{train_packets, BeginPlain}
use Rattle.ip_out.specs.Queues.{IsOutputQueue}
use Rattle.ip_reass.specs.Table.{TableView, IsReady, held_all, unfinished}
use Rattle.sock_calls.specs.Sockets.{IsSocks, queued_chains}
use Rattle.sock_calls.specs.Outgoing.{SendView, send_state}

-- the pool has too few buffers
abbrev pub is_pool : Lack → Bool
is_pool Pool = true
is_pool Queue = false

abbrev pub is_pool_lack : Errno → Bool
is_pool_lack (NoBufs lack) = is_pool lack
is_pool_lack _ = false

abbrev pub lacks_pool : Result ℕ Errno → Bool
lacks_pool (Ok n) = false
lacks_pool (Err errno) = is_pool_lack errno

-- no packet is to come back
abbrev pub no_train : TrainView
no_train = record { first = None; last = None; len = 0 }

-- the machine with the parts of a send and the unfinished datagrams of a table, and otherwise `rest`
abbrev pub host_state : SendView → TableView → State → State
host_state v r rest = send_state v (record rest { unfinished = unfinished v.pool r.datagrams })

-- the chains of the output queue and of the sockets
abbrev pub out_chains : SendView → List ℕ
out_chains v = numbers v.pool v.net.out ++ queued_chains v.pool v.socks.queues

-- The parts after a send fit the pool; packets that come back wait in `looped`.
pub record AreParts (v : SendView) (r : TableView) (u : SendView) (t : TableView) : Type 0 where
  pub socks : IsSocks u.pool u.socks
  pub out : IsOutputQueue u.pool u.net.out
  pub looped : IsHeld u.pool u.net.looped
  pub plain : BeginPlain u.pool u.net.looped
  pub reass : IsReady u.pool t
  pub mtu : u.net.mtu ≡ v.net.mtu
  pub moves : Moves v.pool (held_all v.pool r.datagrams ++ out_chains v) u.pool
      (numbers u.pool u.net.looped ++ (held_all u.pool t.datagrams ++ out_chains u))

-- A send was tried, and again without the unfinished datagrams if the pool had too few buffers: whatever happens to
-- the packets that come back, it's one step of the machine.
pub record IsTried (fd : ℕ) (to : Option Addr) (bytes : List ℕ) (v : SendView) (r : TableView) (result : Result ℕ Errno)
    (u : SendView) (t : TableView) : Type 0 where
  pub goes : (rest new : State) → rest.config.mtu ≡ v.net.mtu → IsAccounted v.pool (host_state v r rest) nothing
      → AllArrive exact_ledger (train_packets u.pool u.net.looped) (host_state u t rest) new
      → Step (host_state v r rest) (Send fd to bytes) (sent_reply result) new
  pub accounts : (rest : State) → IsAccounted v.pool (host_state v r rest) nothing
      → IsAccounted u.pool (host_state u t rest) (weight_owned u.pool (numbers u.pool u.net.looped))
  pub parts : AreParts v r u t

-- A send was made, and the packets that came back have arrived.
pub record HasSent (fd : ℕ) (to : Option Addr) (bytes : List ℕ) (v : SendView) (r : TableView) (result : Result ℕ Errno)
    (u : SendView) (t : TableView) : Type 0 where
  pub step : (rest : State) → rest.config.mtu ≡ v.net.mtu → IsAccounted v.pool (host_state v r rest) nothing
      → Step (host_state v r rest) (Send fd to bytes) (sent_reply result) (host_state u t rest)
  pub socks : IsSocks u.pool u.socks
  pub out : IsOutputQueue u.pool u.net.out
  pub none : u.net.looped ≡ no_train
  pub reass : IsReady u.pool t
  pub mtu : u.net.mtu ≡ v.net.mtu
  pub moves : Moves v.pool (held_all v.pool r.datagrams ++ out_chains v) u.pool
      (held_all u.pool t.datagrams ++ out_chains u)
