-- The parts of a stack that an arrival and a send use (this project's own).
use Rattle.std.specs.Prelude.{◌≡◌, ℕ, Bool, List, [], ◌++◌, length, Result, Ok, Err}
use Rattle.flat_model.specs.Amounts.Layout.{Need}
use Rattle.flat_model.specs.declared.counters.Why.{Why}
use Rattle.flat_model.specs.declared.fate.Fate.{Fate}
use Rattle.flat_model.specs.declared.fate.Fate.TheVariants.{Dropped}
use Rattle.mbuf_chain.specs.Owners.{IsOwned}
use Rattle.mbuf_chain.specs.Train.{TrainView}
use Rattle.ip_out.specs.declared.head.IpHead.{IpHead}
use Rattle.ip_reass.specs.Table.{IsReady, held_all, unfinished}
use Rattle.sock_calls.specs.declared.net.Net.{Net}
use Rattle.sock_calls.specs.Sockets.{IsSocks}
use Rattle.sock_calls.specs.Delivery.{NetView, chains_at}
use Rattle.sock_calls.specs.Whole.{HasWire}
use Rattle.sock_calls.specs.Outgoing.{CanSend, SendView}
use Rattle.net_stack.specs.declared.host.Host.{Host}
use Rattle.net_stack.specs.declared.host.Ending.{Ending}
use Rattle.net_stack.specs.Inside.Arrivals.{fate_by, EndsFor, HasCome, HaveArrived, IsArrived, IsAsked, IsFragmentTaken}
use Rattle.net_stack.specs.Inside.Sending.{out_chains}

-- the parts that an arrival reads and changes
abbrev pub arrival_view : Host → NetView
arrival_view h = record {
  pool = h.pool;
  socks = h.socks;
  unfinished = unfinished h.pool h.reass.datagrams;
  waiting = held_all h.pool h.reass.datagrams;
  counters = h.net.counters;
}

-- the parts that a send reads and changes, except the unfinished datagrams
abbrev pub send_view : Host → SendView
send_view h = record { pool = h.pool; socks = h.socks; net = h.net }

-- the numbers of all chains
abbrev pub all_chains : Host → List ℕ
all_chains h = held_all h.pool h.reass.datagrams ++ out_chains (send_view h)

-- the parts fit for a send, and each chain has one owner
pub record MaySend (h : Host) : Type 0 where
  pub send : CanSend (send_view h)
  pub ready : IsReady h.pool h.reass
  pub owned : IsOwned h.pool (all_chains h)

-- Sockets and unfinished datagrams fit the pool, and each chain has one owner: these chains are in hand, and the parts
-- have the others.
pub record PartsFit (h : Host) (hand : List ℕ) : Type 0 where
  pub socks : IsSocks h.pool h.socks
  pub reass : IsReady h.pool h.reass
  pub owned : IsOwned h.pool (hand ++ chains_at (arrival_view h))

-- the parts fit, and the buffers for a packet's bytes are free
pub record CanStore (h : Host) (packet : List ℕ) : Type 0 where
  pub fit : PartsFit h []
  pub wire : HasWire h.pool (length packet)

-- an arrival doesn't change the output, and only counts
abbrev pub KeepsOutput : Net → Net → Type 0
KeepsOutput old new = new ≡ record old { counters = new.counters }

-- buffers were requested: whether they're free, and what was freed for them
pub record HasAsked (h : Host) (need : Need) (answer : Bool) (k : Host) : Type 0 where
  pub asked : IsAsked h.pool h.reass h.net.counters need answer k.pool k.reass k.net.counters
  pub ready : IsReady k.pool k.reass
  pub socks : k.socks ≡ h.socks
  pub output : KeepsOutput h.net k.net

-- this happened to a host, and left its table ready and its output as it was
pub record LeavesHost (h : Host) (what : NetView → NetView → Type 0) (k : Host) : Type 0 where
  pub does : what (arrival_view h) (arrival_view k)
  pub reass : IsReady k.pool k.reass
  pub output : KeepsOutput h.net k.net

-- what may arrive, and what becomes of it: a packet's bytes from the wire, a packet in a chain, those of a train, and a
-- fragment
abbrev pub PacketArrives : Host → List ℕ → Fate → Host → Type 0
PacketArrives h packet fate k = LeavesHost h (λ v u. HasCome v packet fate u) k

-- the result for a packet from the wire: it came, or nothing has changed, and it's dropped for this cause whichever
-- buffers it would take
abbrev pub IsProcessed : Host → List ℕ → Host → Result Ending Why → Type 0
IsProcessed h packet k (Ok ending) = PacketArrives h packet (fate_by ending k.reached) k
IsProcessed h packet k (Err why) = (k ≡ h) × EndsFor (arrival_view h) packet (Dropped why) why

abbrev pub ArrivesInChain : Host → ℕ → Fate → Host → Type 0
ArrivesInChain h c fate k = LeavesHost h (λ v u. IsArrived v c fate u) k

abbrev pub TrainArrives : Host → TrainView → Host → Type 0
TrainArrives h t k = LeavesHost h (λ v u. HaveArrived v t u) k

abbrev pub FragmentIsTaken : Host → ℕ → IpHead → Fate → Host → Type 0
FragmentIsTaken h c head fate k = LeavesHost h (λ v u. IsFragmentTaken v c head fate u) k
