-- What a send requires and leaves, for every rest of the machine (`sosend`, `udp_output` and `ip_output` of volume 2,
-- chapters 16, 23 and 8; the form with a pool's view is this project's own).
use Rattle.std.specs.Prelude.{◌≡◌, ◌≢◌, ◌⊎◌, ℕ, ◌≤◌, List, ◌++◌, Option, Result, IfErr}
use Rattle.params.specs.declared.TheConstants.{MIN_MTU, LOOPBACK}
use Rattle.flat_model.specs.Amounts.Weight.{Weight, Item, nothing, all_of}
use Rattle.flat_model.specs.Machine.State.{State}
use Rattle.flat_model.specs.Machine.Ledger.{exact_ledger}
use Rattle.flat_model.specs.Machine.Replies.{sent_reply}
use Rattle.flat_model.specs.declared.address.Addr.{Addr}
use Rattle.flat_model.specs.declared.errno.Errno.{Errno}
use Rattle.flat_model.specs.declared.errno.Errno.TheVariants.{NoBufs}
use Rattle.flat_model.specs.declared.errno.Lack.TheVariants.{Queue}
use Rattle.mbuf_chain.specs.Chain.{PoolView}
use Rattle.mbuf_chain.specs.Owners.{IsOwned, Moves}
use Rattle.mbuf_chain.specs.Train.{IsHeld, numbers}
use Rattle.ledger.specs.Accounts.{IsAccounted}
use Rattle.ip_out.specs.Packets.{train_packets, BeginPlain}
use Rattle.ip_out.specs.Queues.{IsOutputQueue}
use Rattle.sock_calls.specs.declared.net.Net.{Net}
use Rattle.sock_calls.specs.Sockets.{SocksView, IsSocks, queued_chains, with_sockets}
use Rattle.sock_calls.specs.Sends.{SendsOnce}

-- the parts that a send reads and changes
pub record SendView : Type 0 where
  pub pool : PoolView
  pub socks : SocksView
  pub net : Net

abbrev pub sending : PoolView → SocksView → Net → SendView
sending p s n = record { pool = p; socks = s; net = n }

-- the machine with this output queue, next identification and these counters, and otherwise `rest`
abbrev pub with_output : PoolView → Net → State → State
with_output p n rest = record rest { output = train_packets p n.out; next_id = n.next_id; counters = n.counters }

-- the machine with these parts, and otherwise `rest`
abbrev pub send_state : SendView → State → State
send_state v rest = with_sockets v.pool v.socks (with_output v.pool v.net rest)

-- the sum of the packets' weights
abbrev pub weight_of_all : List Item → Weight
weight_of_all items = all_of (λ item. item.weight) items

-- What a send requires: its parts fit the pool, no packet is left that was to come back, the machine's two addresses
-- differ, and the broadcast address isn't 127.0.0.1.
pub record CanSend (v : SendView) : Type 0 where
  pub socks : IsSocks v.pool v.socks
  pub out : IsOutputQueue v.pool v.net.out
  pub owned : IsOwned v.pool (numbers v.pool v.net.out ++ queued_chains v.pool v.socks.queues)
  pub looped : IsHeld v.pool v.net.looped
  pub none : v.net.looped.len ≡ 0
  pub mtu : MIN_MTU ≤ v.net.mtu
  pub apart : v.socks.pcbs.bcast ≢ v.socks.pcbs.addr
  pub outside : v.socks.pcbs.bcast ≢ LOOPBACK

-- A send of these bytes through a descriptor. `looped` has the packets that are to come back, which the step still
-- holds in addition to the state. A refusal changes nothing, except that by the output queue.
pub record IsSent (fd : ℕ) (to : Option Addr) (bytes : List ℕ) (v : SendView) (result : Result ℕ Errno) (u : SendView)
    : Type 0 where
  pub step : (rest : State) → rest.config.mtu ≡ v.net.mtu → IsAccounted v.pool (send_state v rest) nothing
      → SendsOnce exact_ledger fd to bytes (send_state v rest) (sent_reply result) (train_packets u.pool u.net.looped)
      (send_state u rest)
  pub accounts : (rest : State) → IsAccounted v.pool (send_state v rest) nothing
      → IsAccounted u.pool (send_state u rest) (weight_of_all (train_packets u.pool u.net.looped))
  pub refused : IfErr result (λ errno. (errno ≡ NoBufs Queue) ⊎ (u ≡ v))
  pub socks : IsSocks u.pool u.socks
  pub out : IsOutputQueue u.pool u.net.out
  pub looped : IsHeld u.pool u.net.looped
  pub plain : BeginPlain u.pool u.net.looped
  pub mtu : u.net.mtu ≡ v.net.mtu
  pub moves : Moves v.pool (numbers v.pool v.net.out ++ queued_chains v.pool v.socks.queues)
      u.pool (numbers u.pool u.net.looped ++ (numbers u.pool u.net.out ++ queued_chains u.pool u.socks.queues))
